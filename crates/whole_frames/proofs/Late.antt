-- An end that is later than all that is left, whether it fits 64 bits or not: all that is left is rendered. One within 2^50 units fits.
-- The idea: an end that doesn't fit "counts as later than any block", as the end of all that is left does. Assumes nothing.
use mathlib.Core.Path.{◌≡◌, refl, sym, ap, ◌∙◌}
use Prim.Native.Nat.{ℕ, ◌+◌, ◌-◌, ◌*◌, ◌/◌, ◌^◌, ◌≤◌, ◌<◌, min}
use native.Mathlib.Nat.{le_refl, add-zero}
use native.Mathlib.Omega.{arith}
use mathlib.Core.Bool.{Bool, true, false, cond}
use mathlib.Core.Option.{Option, none, some}
use borrow.Author.Tests.{le-leb, lt-ltb}
use lib.Signed.{mag, lt_z}
use mir.Syntax.{w64}
use mir.Val.{SFits}
use lib.IntN.{ℤ, pos, ◌+ℤ◌, ◌-ℤ◌}
use lib.Ieee.Nearest.{closest}
use Rattle.laws.proofs.Minus as Minus
use Rattle.laws.proofs.Minus.{Minus}
use Rattle.timestamp.specs.Time.{time_of, frame_near}
use Rattle.timestamp.specs.Answer.{fits64, fitting}
use Rattle.timestamp.proofs.Time.{T-near}
use Rattle.timestamp.proofs.Interval.{interval, interval_int, interval_late}

-- the interval to an end that may not fit 64 bits
abbrev pub to : ℕ → ℕ → ℤ → Option ℤ → ℕ
to R l P none = min (frame_near R (P +ℤ time_of R l -ℤ P)) l
to R l P (some E) = interval R P E l

-- one that is later than all that is left, whether it fits or not
same_end : (b : Bool) (z : ℤ) → cond b z z ≡ z
same_end true z = refl
same_end false z = refl

-- none is the end of all that is left
none_late : (R l P : ℕ) → 0 < R → R < 2 ^ 18 → l < 8 * R → P < 2 ^ 50 → to R l (pos P) none ≡ l
none_late R l P r r' h small =
    let n = T-near R l r r' h in
    let t = closest (l * 2 ^ 32) R in
    sym (ap (λ (z : ℤ). min (frame_near R (z -ℤ pos P)) l) (same_end (lt_z (pos P +ℤ time_of R l) (pos P +ℤ time_of R l)) (pos P +ℤ time_of R l)))
    ∙ ap (λ (z : ℤ). interval R (pos P) z l) (ap (λ (z : ℤ). pos P +ℤ z) n.0)
    ∙ interval_int R l (pos P) (pos (P + t)) P (P + t) 0 r r' h small (add-zero P) (add-zero (P + t))
    ∙ ap (λ (b : Bool). cond b l (min ((2 * ((P + t - P) * R) + 2 ^ 32) / 2 ^ 33) l)) (le-leb (P + t) (P + t) (le_refl _))

pub late : (R l P E : ℕ) → 0 < R → R < 2 ^ 18 → l < 8 * R → P < 2 ^ 50 → P + 2 ^ 35 ≤ E → to R l (pos P) (fitting (pos E)) ≡ l
late R l P E r r' h small k = go (fits64 (pos E))
  where
    go : (b : Bool) → to R l (pos P) (cond b (some (pos E)) none) ≡ l
    go true = interval_late R l P E r r' h small k
    go false = none_late R l P r r' h small

-- one that is near fits
pub fits : (z : ℤ) (a b : ℕ) → Minus z a b → a ≤ 2 ^ 50 → b ≤ 2 ^ 50 → fitting z ≡ some z
fits z a b h p q = ap (λ (t : Bool). cond t (some z) none) (lt-ltb (mag z) (2 ^ 63) (in_64 z a b h p q).sfits)
  where
    in_64 : (z : ℤ) (a b : ℕ) → Minus z a b → a ≤ 2 ^ 50 → b ≤ 2 ^ 50 → SFits w64 z
    in_64 z a b h p q = Minus.fits64 z a b h (omega arith) (omega arith)
