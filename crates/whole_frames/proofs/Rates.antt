-- The budget as one number for each rate: (k + 2c + 4)·R < 2^32 exactly when k + 2c is at most `limit R`; and what that is at four rates.
-- The idea: a quotient. Assumes nothing.
use mathlib.Core.Path.{◌≡◌, refl}
use Prim.Native.Nat.{ℕ, ◌+◌, ◌-◌, ◌*◌, ◌/◌, ◌^◌, ◌≤◌, ◌<◌}
use native.Mathlib.Nat.{le-div_iff_mul-le}
use native.Mathlib.Omega.{arith}
use Rattle.whole_frames.specs.Whole.{Budget, limit}

-- at every rate in range
module _ (R k c : ℕ) (some : 0 < R) (low : R ≤ 96000) where
  four : 4 ≤ (2 ^ 32 - 1) / R
  four = (le-div_iff_mul-le some).1 (omega arith)

  pub within_limit : k + 2 * c ≤ limit R → Budget R k c
  within_limit h =
      let f = four in
      let x : (k + 2 * c + 4) * R ≤ 2 ^ 32 - 1 = (le-div_iff_mul-le some).0 (omega arith) in
      omega arith

  pub limit_least : Budget R k c → k + 2 * c ≤ limit R
  limit_least h = let x : k + 2 * c + 4 ≤ (2 ^ 32 - 1) / R = (le-div_iff_mul-le some).1 (omega arith) in omega arith

-- "At 48,000 the second half of demand 3 holds while k+2c is at most 89,474"
pub limits : (limit 8000 ≡ 536866) × (limit 44100 ≡ 97387) × (limit 48000 ≡ 89474) × (limit 96000 ≡ 44735)
limits = (refl, refl, refl, refl)
