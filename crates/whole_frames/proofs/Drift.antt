-- The first half's arithmetic: a position that grew by T of each of k pieces, n frames together, is within k / 2 units of n / R seconds.
-- The idea: T of each piece is within half a unit (`T-near`), and the sum adds up the halves (`one_more`). Assumes nothing.
use mathlib.Core.Path.{◌≡◌, refl, sym, ap, ◌∙◌, subst}
use Prim.Native.Nat.{ℕ, ◌+◌, ◌*◌, ◌^◌, ◌≤◌, ◌<◌}
use native.Mathlib.Nat.{lt_of_le_of_lt}
use native.Mathlib.Omega.{arith}
use mathlib.Core.List.{List, [], ◌∷◌, ◌++◌}
use lib.ListN.{length, length-append}
use lib.IntN.{ℤ, pos, negsuc, nat_abs, ◌+ℤ◌, ◌-ℤ◌, ◌*ℤ◌, +ℤ_assoc, +ℤ_comm, +ℤ_idr, +ℤ-neg_ℤ_cancel}
use lib.Ieee.Nearest.{closest}
use Rattle.laws.proofs.Minus.{Minus, nat_minus}
use Rattle.timestamp.specs.Time.{time_of}
use Rattle.timestamp.proofs.Time.{Timed, T-near}
use Rattle.timestamp.proofs.Drift.{Drift, drift_none, one_more}
use Rattle.sampler_player.specs.Clock.{clock_at}
use Rattle.sampler_player.specs.Pieces.{total, travel}
use Rattle.whole_frames.specs.Run.{Drifts}
use Rattle.whole_frames.proofs.Lasting.{AtMost}

-- ---- each piece has a time within half a unit
abbrev pub EachTimed : ℕ → List ℕ → Type 0
EachTimed R [] = Unit {0}
EachTimed R (m ∷ ms) = ((t : ℕ) × Timed R m t) × EachTimed R ms

pub each_timed : (R l : ℕ) (ms : List ℕ) → 0 < R → R < 2 ^ 18 → l < 8 * R → AtMost l ms → EachTimed R ms
each_timed R l [] r r' h a = tt
each_timed R l (m ∷ ms) r r' h a = ((closest (m * 2 ^ 32) R, T-near R m r r' (lt_of_le_of_lt a.0 h)), each_timed R l ms r r' h a.1)

pub each_append : (R : ℕ) (xs ys : List ℕ) → EachTimed R xs → EachTimed R ys → EachTimed R (xs ++ ys)
each_append R [] ys a b = b
each_append R (x ∷ xs) ys a b = (a.0, each_append R xs ys a.1 b)

-- ---- the pieces of two stretches
pub count_append : (k : ℕ) (xs ys : List ℕ) → k + length (xs ++ ys) ≡ k + length xs + length ys
count_append k xs ys = let l = length-append xs ys in omega (arith, l)

pub travel_append : (R : ℕ) (z : ℤ) (xs ys : List ℕ) → travel (clock_at R) z (xs ++ ys) ≡ travel (clock_at R) (travel (clock_at R) z xs) ys
travel_append R z [] ys = refl
travel_append R z (x ∷ xs) ys = travel_append R (z +ℤ time_of R x) xs ys

-- ---- how far the pieces go, from any D
pub drift : (R : ℕ) (D : ℤ) (ms : List ℕ) → EachTimed R ms → (w : ℕ) × (travel (clock_at R) D ms ≡ D +ℤ pos w) × Drift R (length ms) (total ms) w
drift R D [] a = (0, sym (+ℤ_idr D), drift_none R)
drift R D (m ∷ ms) a =
    let t = a.0.0 in
    let x : Timed R m t = a.0.1 in
    let d = drift R (D +ℤ time_of R m) ms a.1 in
    (t + d.0, d.1 ∙ ap (λ (z : ℤ). D +ℤ z +ℤ pos d.0) x.0 ∙ +ℤ_assoc D (pos t) (pos d.0), one_more R (length ms) (total ms) d.0 m t x.1 d.2)

-- ---- as the demand has it
apart : (z : ℤ) (a b c : ℕ) → Minus z a b → 2 * a ≤ 2 * b + c → 2 * b ≤ 2 * a + c → 2 * nat_abs z ≤ c
apart (pos n) a b c m h k = omega arith
apart (negsuc n) a b c m h k = omega arith

gone : (P D : ℤ) (w : ℕ) → P ≡ D +ℤ pos w → P -ℤ D ≡ pos w
gone P D w e = ap (λ (z : ℤ). z -ℤ D) (e ∙ +ℤ_comm D (pos w)) ∙ +ℤ-neg_ℤ_cancel (pos w) D

pub drifts : (R : ℕ) (D P : ℤ) (ms : List ℕ) → EachTimed R ms → P ≡ travel (clock_at R) D ms → Drifts R (length ms) ms D P
drifts R D P ms a e =
    let d = drift R D ms a in
    let x = d.0 * R in
    let y = total ms * 2 ^ 32 in
    let h =
    subst (λ (z : ℤ). 2 * nat_abs (z *ℤ pos R -ℤ pos y) ≤ length ms * R) (sym (gone P D d.0 (e ∙ d.1)))
    (apart (pos x -ℤ pos y) x y (length ms * R) (nat_minus x y) d.2.0 d.2.1) in
    omega (arith, h)
