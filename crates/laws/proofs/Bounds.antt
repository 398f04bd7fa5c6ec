-- Finite values of at most a whole number in magnitude: what rounding and products make of that bound.
-- The idea: a bound with fewer digits than the format keeps is a value of the format, and rounding keeps the order. Assumes nothing.
use mathlib.Core.Path.{◌≡◌, sym, ap, ◌∙◌, subst}
use mathlib.Core.Bool.{Bool}
use Prim.Native.Nat.{ℕ, suc, ◌+◌, ◌-◌, ◌*◌, ◌^◌, ◌≤◌, ◌<◌}
use native.Mathlib.Nat.{zero-lt-suc, le_trans, le_of_eq, lt_of_le_of_lt, lt_of_lt_of_le, mul-one, mul_assoc, mul_comm, mul_right_comm, mul-le-mul_left, mul-le-mul_right, mul-lt-mul_of_pos_right, mul-pos, le_of_mul-le-mul_right}
use native.Mathlib.Omega.{arith}
use lib.Pow.{pow-add, pow_pos, pow_mono}
use lib.Ieee.{Float, nan, inf, fin, Format, prec, emax, low, up, down, unlike, round, mul}
use lib.Ieee.Fits.{down_pos, reach}
use lib.Ieee.Exact.{HasValue}
use lib.Ieee.Order.{drop}
use lib.Ieee.Scale.{grid, overflow}
use Rattle.laws.proofs.Round.{grid_mono, grid_exact, drop_le, round_value}

-- x is finite, and at most B in magnitude
abbrev pub AtMost : ℕ → Float → Type 0
AtMost B nan = ⊥
AtMost B (inf s) = ⊥
AtMost B (fin s m e) = m * up e ≤ B * down e

-- ---- rounding
most_of_value : (B : ℕ) (x : Float) (s : Bool) (a c : ℕ) → 0 < c → HasValue x s a c → a ≤ B * c → AtMost B x
most_of_value B nan s a c C v l = v
most_of_value B (inf t) s a c C v l = v
most_of_value B (fin t m e) s a c C v l =
    le_of_mul-le-mul_right (le_trans (le_of_eq v.1) (le_trans (mul-le-mul_right (down e) l) (le_of_eq (mul_right_comm B c (down e))))) C

whole_drop : (p l : ℕ) → p + l - p ≡ l
whole_drop p l = omega arith

-- a whole number of few digits is its own rounding, in units of the format's smallest value
whole_grid : (f : Format) (B : ℕ) → B < 2 ^ prec f → grid f B 1 ≡ B * 2 ^ low f
whole_grid f B b =
    sym (mul-one (grid f B 1))
    ∙ grid_exact f B 1 B (low f) (zero-lt-suc 0)
    (subst (λ (z : ℕ). drop (prec f) (B * 2 ^ low f) 1 ≤ z) (whole_drop (prec f) (low f)) (drop_le f B 1 (prec f) (zero-lt-suc 0) (subst (λ (z : ℕ). B < z) (sym (mul-one (2 ^ prec f))) b)))
    (sym (mul-one (B * 2 ^ low f)))

round_most : (f : Format) (s : Bool) (a c B : ℕ) → 0 < c → B < 2 ^ prec f → a ≤ B * c → AtMost B (round f s a c)
round_most f s a c B C b l =
    let g : grid f a c ≤ B * 2 ^ low f =
    le_trans (grid_mono f a c B 1 C (zero-lt-suc 0) (le_trans (le_of_eq (mul-one a)) l)) (le_of_eq (whole_grid f B b)) in
    let top : 2 ^ prec f * 2 ^ low f ≤ overflow f =
    le_trans (le_of_eq (mul_comm (2 ^ prec f) (2 ^ low f))) (le_trans (mul-le-mul_left (2 ^ low f) (pow_mono (reach f))) (le_of_eq (sym (pow-add 2 (low f) (suc (emax f)))))) in
    most_of_value B (round f s a c) s (grid f a c) (2 ^ low f) (pow_pos (low f))
    (round_value f s a c (lt_of_le_of_lt g (lt_of_lt_of_le (mul-lt-mul_of_pos_right b (pow_pos (low f))) top)))
    g

-- ---- products
times : (x y A B p q : ℕ) → x ≤ A * p → y ≤ B * q → x * y ≤ A * B * (p * q)
times x y A B p q h k =
    le_trans (le_trans (mul-le-mul_right y h) (mul-le-mul_left (A * p) k)) (le_of_eq (rearrange A B p q))
  where
    rearrange : (A B p q : ℕ) → A * p * (B * q) ≡ A * B * (p * q)
    rearrange A B p q = sym (mul_assoc (A * p) B q) ∙ ap (λ (z : ℕ). z * q) (mul_right_comm A p B) ∙ mul_assoc (A * B) p q

pub mul_most : (f : Format) (A B : ℕ) (x y : Float) → A * B < 2 ^ prec f → AtMost A x → AtMost B y → AtMost (A * B) (mul f x y)
unfolding mul
mul_most f A B nan y l h k = h
mul_most f A B (inf s) y l h k = absurd h
mul_most f A B (fin s m e) nan l h k = k
mul_most f A B (fin s m e) (inf t) l h k = absurd k
mul_most f A B (fin s m e) (fin t n d) l h k =
    round_most f (unlike s t) (m * up e * (n * up d)) (down e * down d) (A * B) (mul-pos (down_pos e) (down_pos d)) l (times (m * up e) (n * up d) A B (down e) (down d) h k)
