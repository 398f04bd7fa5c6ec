-- `piece_whole`: the frames of a piece, from the errors of its position and of its end, as numbers: while they stay below half a frame together it is what whole frames give.
-- The idea: three cases, as the end is past, comes first, or comes after all that is left; each is an inequality. Assumes nothing.
use mathlib.Core.Path.{◌≡◌, sym, ap, ◌∙◌}
use Prim.Native.Nat.{ℕ, ◌+◌, ◌-◌, ◌*◌, ◌/◌, ◌^◌, ◌≤◌, ◌<◌, min}
use native.Mathlib.Nat.{le_of_lt, mul-le-mul_right, min_comm, min-eq_left, sub-eq-zero_of_le, zero-mul}
use native.Mathlib.Omega.{arith}
use mathlib.Core.Bool.{Bool, true, false, not, cond}
use lib.Dec.{T, leb, leb→le, nleb→lt}
use lib.IntN.{ℤ}
use lib.Ieee.Nearest.{closest}
use Rattle.laws.proofs.Near.{Near}
use Rattle.laws.proofs.Minus.{Minus}
use Rattle.timestamp.proofs.Time.{T-near}
use Rattle.timestamp.proofs.Interval.{interval, frames_to, interval_int}

-- u units are n frames but for an error: x is twice it, scaled by R. (`Drift R k n u` is `Off (k * R) R n u`)
abbrev pub Off : ℕ → ℕ → ℕ → ℕ → Type 0
Off x R n u = (2 * (u * R) ≤ 2 * (n * 2 ^ 32) + x) × (2 * (n * 2 ^ 32) ≤ 2 * (u * R) + x)

-- ---- the three cases: u units, and n frames, are gone; A units, and e frames, is the end; t units, and l frames, are left
module _ (R x y n u e A : ℕ) (small : R < 2 ^ 18) (errors : x + y < 2 ^ 32) (p : Off x R n u) (q : Off y R e A) where
  pub all_fits : (l t : ℕ) → Near t (l * 2 ^ 32) R → u + t ≤ A → l ≤ e - n
  all_fits l t r h = let k : (u + t) * R ≤ A * R = mul-le-mul_right R h in omega arith

  end_first : (d : ℕ) → d + u ≡ A → (2 * (d * R) + 2 ^ 32) / 2 ^ 33 ≡ e - n
  end_first d h = let k : (d + u) * R ≡ A * R = ap (λ (z : ℕ). z * R) h in omega arith

  end_past : A < u → e - n ≡ 0
  end_past h = let k : A * R ≤ u * R = mul-le-mul_right R (le_of_lt h) in omega arith

  to_whole : (l t : ℕ) → Near t (l * 2 ^ 32) R → frames_to R l t u A ≡ min l (e - n)
  to_whole l t near = go (leb (u + t) A) (leb→le (u + t) A) (leb u A) (leb→le u A) (nleb→lt u A)
    where
      back : u ≤ A → A - u + u ≡ A
      back k = omega arith

      go : (a : Bool) → (T a → u + t ≤ A) → (b : Bool) → (T b → u ≤ A) → (T (not b) → A < u) → cond a l (min ((2 * ((A - u) * R) + 2 ^ 32) / 2 ^ 33) l) ≡ min l (e - n)
      go true f b g h = sym (min-eq_left (all_fits l t near (f tt)))
      go false f true g h = ap (λ (z : ℕ). min z l) (end_first (A - u) (back (g tt))) ∙ min_comm (e - n) l
      go false f false g h =
          ap (λ (z : ℕ). min ((2 * (z * R) + 2 ^ 32) / 2 ^ 33) l) (sub-eq-zero_of_le (le_of_lt (h tt)))
          ∙ ap (λ (z : ℕ). min ((2 * z + 2 ^ 32) / 2 ^ 33) l) (zero-mul R) ∙ min_comm 0 l ∙ ap (λ (z : ℕ). min l z) (sym (end_past (h tt)))

-- from position P to the end E, with l frames left: P = u − B and E = A − B
pub piece_whole : (R x y l : ℕ) (P E : ℤ) (u A B n e : ℕ) → 0 < R → R < 2 ^ 18 → l < 8 * R → x + y < 2 ^ 32 → u < 2 ^ 50 → Minus P u B → Minus E A B → Off x R n u → Off y R e A
    → interval R P E l ≡ min l (e - n)
piece_whole R x y l P E u A B n e r r' h s small p q a b =
    interval_int R l P E u A B r r' h small p q ∙ to_whole R x y n u e A r' s a b l (closest (l * 2 ^ 32) R) (T-near R l r r' h).1
