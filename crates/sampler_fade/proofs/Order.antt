-- The order of the bit patterns below an infinity's is the order of their values.
-- The idea: a field's values grow with the digits, and each is below the first value of the next field. Assumes nothing.
use mathlib.Core.Path.{◌≡◌, sym, ap, ◌∙◌, subst}
use mathlib.Core.Bool.{true, false, true≢false}
use mathlib.Core.Logic.{inl, inr}
use Prim.Native.Nat.{ℕ, zero, suc, ◌+◌, ◌-◌, ◌*◌, ◌/◌, ◌%◌, ◌^◌, ◌≤◌, ◌<◌}
use native.Mathlib.Nat.{le_trans, le_of_eq, le_of_lt, lt_of_lt_of_le, eq-or-lt_of_le, le_of_suc-le-suc, not-suc-le-zero, le-add_right, mul-one, mul_assoc, mul-le-mul_left, mul-le-mul_right, mul-lt-mul_of_pos_right, lt_of_mul-lt-mul_right, mul-pos, mod-lt, div-add-mod', pow-succ'}
use native.Mathlib.Omega.{arith}
use lib.Dec.{T, lt→ltb}
use lib.Pow.{pow_pos, pow_mono, shr_mono}
use lib.Ieee.{Float, nan, inf, fin, Format, prec, low, up, down, hid, lt, of_bits}
use lib.Ieee.Fits.{down_pos}
use lib.Ieee.Exact.{HasValue}
use Rattle.sampler_fade.proofs.Patterns.{infinite, units_at, in_units, hid_pos, value}

later : (h u p q : ℕ) → p ≤ q → h * p ≤ (h + u) * q
later h u p q l = le_trans (mul-le-mul_left h l) (mul-le-mul_right q (le-add_right h u))

-- of two fields the later has the larger values
past : (f : Format) (x y t u : ℕ) → t < hid f → x < y → units_at f x t < units_at f y u
past f x zero t u d l = absurd (not-suc-le-zero l)
past f zero (suc y) t u d l = lt_of_lt_of_le d (le_trans (le_of_eq (sym (mul-one (hid f)))) (later (hid f) u 1 (2 ^ y) (pow_pos y)))
past f (suc x) (suc y) t u d l =
    lt_of_lt_of_le (twice (hid f) t (2 ^ x) (pow_pos x) d)
    (le_trans (le_of_eq (ap (λ (n : ℕ). hid f * n) (sym (pow-succ' 2 x)))) (later (hid f) u (2 ^ suc x) (2 ^ y) (pow_mono (le_of_suc-le-suc l))))
  where
    twice : (h t p : ℕ) → 0 < p → t < h → (h + t) * p < h * (2 * p)
    twice h t p P d = lt_of_lt_of_le (mul-lt-mul_of_pos_right (more h t d) P) (le_of_eq (mul_assoc h 2 p))
      where
        more : (h t : ℕ) → t < h → h + t < h * 2
        more h t d = omega arith

-- and in one field the larger digits do
along : (f : Format) (x t u : ℕ) → t < u → units_at f x t < units_at f x u
along f zero t u l = l
along f (suc x) t u l = mul-lt-mul_of_pos_right (more (hid f)) (pow_pos x)
  where
    more : (h : ℕ) → h + t < h + u
    more h = omega arith

pub grows : (f : Format) {a b : ℕ} → a < b → in_units f a < in_units f b
unfolding in_units
grows f {a} {b} l =
    let h = hid f in
    elim (eq-or-lt_of_le (shr_mono (prec f - 1) (le_of_lt l))) [
      | inl e ↦ subst (λ (x : ℕ). in_units f a < units_at f x (b % h)) e
          (along f (a / h) (a % h) (b % h) (digits (a / h * h) (a % h) (b % h) a b (div-add-mod' a h) (ap (λ (x : ℕ). x * h + b % h) e ∙ div-add-mod' b h) l))
      | inr k ↦ past f (a / h) (b / h) (a % h) (b % h) (mod-lt a (hid_pos f)) k
    ]
  where
    digits : (q t u a b : ℕ) → q + t ≡ a → q + u ≡ b → a < b → t < u
    digits q t u a b A B l = omega arith

-- two values from 0 on, a / c and b / c
pub lt_of_values : (x y : Float) (a b c : ℕ) → 0 < c → HasValue x false a c → HasValue y false b c → a < b → T (lt x y)
unfolding lt
lt_of_values nan y a b c C v w h = absurd v
lt_of_values (inf s) y a b c C v w h = absurd v
lt_of_values (fin true m e) y a b c C v w h = absurd (true≢false v.0)
lt_of_values (fin false m e) nan a b c C v w h = absurd w
lt_of_values (fin false m e) (inf t) a b c C v w h = absurd w
lt_of_values (fin false m e) (fin true n d) a b c C v w h = absurd (true≢false w.0)
lt_of_values (fin false m e) (fin false n d) a b c C v w h =
    lt→ltb (m * up e * down d) (n * up d * down e) (cross (m * up e) (n * up d) (down e) (down d) a b c (down_pos e) (down_pos d) v.1 w.1 h)
  where
    cross : (p q de dd a b c : ℕ) → 0 < de → 0 < dd → p * c ≡ a * de → q * c ≡ b * dd → a < b → p * dd < q * de
    cross p q de dd a b c D D' v w h =
        let l : a * (de * dd) < b * (de * dd) = mul-lt-mul_of_pos_right h (mul-pos D D') in
        let x : p * c * dd ≡ a * de * dd = ap (λ (n : ℕ). n * dd) v in
        let y : q * c * de ≡ b * dd * de = ap (λ (n : ℕ). n * de) w in
        lt_of_mul-lt-mul_right c (omega arith)

pub rises : (f : Format) {a b : ℕ} → a < b → b < infinite f → T (lt (of_bits f a) (of_bits f b))
rises f {a} {b} l h =
    lt_of_values (of_bits f a) (of_bits f b) (in_units f a) (in_units f b) (2 ^ low f) (pow_pos (low f)) (value f a (lt_of_lt_of_le l (le_of_lt h))) (value f b h) (grows f l)
