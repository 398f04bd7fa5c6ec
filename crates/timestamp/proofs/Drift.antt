-- `Drift R k n w`: w units are within k / 2 of n frames. One piece more, of m frames and T(m) units, adds one to k.
-- The idea: T of a piece is within half a unit of it (`T-near`). Assumes nothing.
use Rattle.std.proofs.Common.{ℕ, suc, ◌+◌, ◌*◌, ◌^◌, ◌≤◌, arith}
use Rattle.laws.proofs.Near.{Near}

abbrev pub Drift : ℕ → ℕ → ℕ → ℕ → Type 0
Drift R k n w = (2 * (w * R) ≤ 2 * (n * 2 ^ 32) + k * R) × (2 * (n * 2 ^ 32) ≤ 2 * (w * R) + k * R)

pub drift_none : (R : ℕ) → Drift R 0 0 0
drift_none R = omega arith

pub one_more : (R k n w m t : ℕ) → Near t (m * 2 ^ 32) R → Drift R k n w → Drift R (suc k) (m + n) (t + w)
one_more R k n w m t h d = omega arith
