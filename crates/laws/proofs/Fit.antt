-- Laws of binary64 that the proofs here share: a value that fits is determined by its size and sign, rounding a value that fits changes nothing,
-- and a division by 2 ^ 32 of a rounded whole number is the fraction rounded once. Assumes nothing.
use mathlib.Core.Path.{◌≡◌, refl, sym, ap, ◌∙◌, subst}
use mathlib.Core.Bool.{Bool, false, cond, ◌&&◌}
use Prim.Native.Nat.{ℕ, zero, suc, ◌+◌, ◌-◌, ◌*◌, ◌/◌, ◌%◌, ◌^◌, ◌≤◌, ◌<◌}
use native.Mathlib.Nat.{le_trans, le_of_eq, lt_of_lt_of_le, lt_of_le_of_lt, lt_of_not-le, lt_irrefl, zero-lt-suc, mul-one, one-mul, zero-mul, mul_comm, mul_assoc, mul_left_comm, mul_right_comm, mul-le-mul_right, mul-lt-mul_of_pos_right, mul-pos, lt_of_mul-lt-mul_right, mul-le-mul_left}
use native.Mathlib.Omega.{arith}
use lib.IntN.{ℤ, pos, negsuc}
use lib.Dec.{T, ltb, leb, eqb, ltb→lt, leb→le, eqb→eq, lit≤, lit<}
use lib.Pow.{pow-add, pow_pos, pow-lt}
use lib.Ieee.{Float, nan, inf, fin, Format, binary64, prec, emax, low, up, down, size, round, div, fits, hid, top, to_bits, of_bits}
use lib.Ieee.Digits.{back}
use lib.Ieee.Fits.{round-fits, down_pos, and_l, and_r}
use lib.Ieee.Bits.{of_bits-to_bits}
use lib.Ieee.Exact.{HasValue, round_exact}
use lib.Ieee.Nearest.{closest, closest_same, div_same}
use lib.Ieee.Order.{drop}
use lib.Ieee.Scale.{round_same, grid, overflow, grid_scale, normal_of_fraction}
use Rattle.laws.proofs.Round.{no_overflow, round_value}
use Rattle.laws.proofs.Operations.{div_at, like_plus}

-- ---- a value that fits is its size and its sign

abbrev pattern : Format → Bool → ℕ → ℕ
pattern f s n = cond s (top f) 0 + (size n - prec f) * hid f + n / 2 ^ (size n - prec f)

to_bits_is : (f : Format) (s : Bool) (m : ℕ) (e : ℤ) → to_bits f (fin s m e) ≡ pattern f s (m * up e * 2 ^ low f / down e)
unfolding to_bits
to_bits_is f s m e = refl

-- a / c in units of the format's smallest value, cut
cut : (f : Format) (m : ℕ) (e : ℤ) (a c : ℕ) → 0 < c → m * up e * c ≡ a * down e → m * up e * 2 ^ low f / down e ≡ a * 2 ^ low f / c
cut f m e a c C h = div_same (m * up e * 2 ^ low f) (down e) (a * 2 ^ low f) c (down_pos e) C
    (mul_right_comm (m * up e) (2 ^ low f) c ∙ ap (λ (z : ℕ). z * 2 ^ low f) h ∙ mul_right_comm a (down e) (2 ^ low f))

pub unique : (f : Format) (x y : Float) (s : Bool) (a c : ℕ) → 0 < c → T (fits f x) → T (fits f y) → HasValue x s a c → HasValue y s a c → x ≡ y
unique f nan y s a c C p q v w = absurd v
unique f (inf t) y s a c C p q v w = absurd v
unique f (fin t m e) nan s a c C p q v w = absurd w
unique f (fin t m e) (inf u) s a c C p q v w = absurd w
unique f (fin t m e) (fin u n g) s a c C p q v w =
    sym (of_bits-to_bits f (fin t m e) p)
    ∙ ap (of_bits f)
    (to_bits_is f t m e
    ∙ ap (λ (b : Bool). pattern f b (m * up e * 2 ^ low f / down e)) (v.0 ∙ sym w.0)
    ∙ ap (pattern f u) (cut f m e a c C v.1 ∙ sym (cut f n g a c C w.1))
    ∙ sym (to_bits_is f u n g))
    ∙ of_bits-to_bits f (fin u n g) q

-- ---- rounding what fits changes nothing

abbrev Room : Format → ℕ → ℤ → Type 0
Room f m e = (m < 2 ^ prec f) × (down e ≤ 2 ^ low f) × (m * up e < 2 ^ suc (emax f) * down e)

flat : (e : ℤ) → up e * down e ≡ 1 → (up e ≡ 1) × (down e ≡ 1)
flat (pos k) h = (sym (mul-one (2 ^ k)) ∙ h, refl)
flat (negsuc k) h = (refl, sym (one-mul (2 ^ suc k)) ∙ h)

pub room_of : (f : Format) (s : Bool) (m : ℕ) (e : ℤ) → T (fits f (fin s m e)) → Room f m e
unfolding fits
room_of f s zero e t =
    let h = flat e (eqb→eq (up e * down e) 1 t) in (
      pow_pos (prec f),
      subst (λ (z : ℕ). z ≤ 2 ^ low f) (sym h.1) (pow_pos (low f)),
      subst (λ (z : ℕ). z < 2 ^ suc (emax f) * down e) (sym (zero-mul (up e))) (mul-pos (pow_pos (suc (emax f))) (down_pos e)),
    )
room_of f s (suc m) e t =
    let a : Bool = eqb (suc m % 2) 1 in
    let b : Bool = ltb (suc m) (2 ^ prec f) in
    let c : Bool = leb (down e) (2 ^ low f) in
    let d : Bool = ltb (suc m * up e) (2 ^ suc (emax f) * down e) in (
      ltb→lt (suc m) (2 ^ prec f) (and_r a b (and_l (a && b) c (and_l (a && b && c) d t))),
      leb→le (down e) (2 ^ low f) (and_r (a && b) c (and_l (a && b && c) d t)),
      ltb→lt (suc m * up e) (2 ^ suc (emax f) * down e) (and_r (a && b && c) d t),
    )

pow_le_back : (i j : ℕ) → 2 ^ i ≤ 2 ^ j → i ≤ j
pow_le_back i j h = go (lt_of_not-le (λ (g : suc j ≤ i). lt_irrefl (2 ^ j) (lt_of_lt_of_le (pow-lt (g)) h)))
  where
    go : i < suc j → i ≤ j
    go k = omega arith

-- 2 ^ e is 2 ^ j units
abbrev Units : Format → ℤ → Type 0
Units f e = (j : ℕ) × (up e * 2 ^ low f ≡ 2 ^ j * down e)

units_of : (f : Format) (e : ℤ) → down e ≤ 2 ^ low f → Units f e
units_of f (pos k) h = (k + low f, sym (pow-add 2 k (low f)) ∙ sym (mul-one (2 ^ (k + low f))))
units_of f (negsuc k) h =
    (low f - suc k, one-mul (2 ^ low f) ∙ ap (λ (z : ℕ). 2 ^ z) (sym (back (low f) (suc k) (pow_le_back (suc k) (low f) h))) ∙ pow-add 2 (low f - suc k) (suc k))

-- t times a value that fits, t a power of two, where that is in range, is rounded to itself
pub scaled_val : (f : Format) (s : Bool) (m : ℕ) (e : ℤ) (t : ℕ) → T (fits f (fin s m e)) → m * up e * 2 ^ t < 2 ^ suc (emax f) * down e
    → HasValue (round f s (m * up e * 2 ^ t) (down e)) s (m * up e * 2 ^ t) (down e)
scaled_val f s m e t F R =
    let r = room_of f s m e F in
    let k = units_of f e r.1 in
    let l = 2 ^ low f in
    let is : m * up e * 2 ^ t * l ≡ m * 2 ^ (k.0 + t) * down e =
    simp (mul_assoc, mul_comm, mul_left_comm, pow-add) (simp (mul_assoc, mul_comm, mul_left_comm) at (ap (λ (z : ℕ). z * (m * 2 ^ t)) k.1)) in
    let fine : m * 2 ^ (k.0 + t) < 2 ^ (low f + suc (emax f)) =
    lt_of_mul-lt-mul_right (down e)
    (subst (λ (z : ℕ). z < 2 ^ (low f + suc (emax f)) * down e) is
    (lt_of_lt_of_le (mul-lt-mul_of_pos_right R (pow_pos (low f)))
    (le_of_eq (simp (mul_assoc, mul_comm, mul_left_comm, pow-add))))) in
    round_exact f s (m * up e * 2 ^ t) (down e) m (k.0 + t) (down_pos e) r.0 fine is

pub round_fit : (f : Format) (y : Float) (s : Bool) (a c : ℕ) → 0 < c → T (fits f y) → HasValue y s a c → round f s a c ≡ y
round_fit f nan s a c C F v = absurd v
round_fit f (inf t) s a c C F v = absurd v
round_fit f (fin t m e) s a c C F v =
    let r = room_of f t m e F in
    let one : m * up e * 2 ^ 0 ≡ m * up e = mul-one (m * up e) in
    let w : HasValue (round f t (m * up e) (down e)) t (m * up e) (down e) =
    subst (λ (z : ℕ). HasValue (round f t z (down e)) t z (down e)) one (scaled_val f t m e 0 F (subst (λ (z : ℕ). z < 2 ^ suc (emax f) * down e) (sym one) r.2)) in
    round_same f s a c (m * up e) (down e) C (down_pos e) (sym v.1)
    ∙ ap (λ (b : Bool). round f b (m * up e) (down e)) (sym v.0)
    ∙ unique f (round f t (m * up e) (down e)) (fin t m e) t (m * up e) (down e) (down_pos e) (round-fits f t (m * up e) (down e)) F w (refl, refl)

-- ---- a fraction may be written another way

pub grid_same : (f : Format) (a b c d : ℕ) → 0 < b → 0 < d → a * d ≡ c * b → grid f a b ≡ grid f c d
grid_same f a b c d B D e =
    let l = 2 ^ low f in
    let p = prec f in
    let x : a * l * d ≡ c * l * b = mul_right_comm a l d ∙ ap (λ (z : ℕ). z * l) e ∙ mul_right_comm c b l in
    let k : drop p (a * l) b ≡ drop p (c * l) d = ap (λ (z : ℕ). size z - p) (div_same (a * l) b (c * l) d B D x) in
    let j = drop p (c * l) d in
    let y : a * l * (d * 2 ^ j) ≡ c * l * (b * 2 ^ j) = sym (mul_assoc (a * l) d (2 ^ j)) ∙ ap (λ (z : ℕ). z * 2 ^ j) x ∙ mul_assoc (c * l) b (2 ^ j) in
    ap (λ (z : ℕ). closest (a * l) (b * 2 ^ z) * 2 ^ z) k
    ∙ ap (λ (z : ℕ). z * 2 ^ j) (closest_same (a * l) (b * 2 ^ j) (c * l) (d * 2 ^ j) (mul-pos B (pow_pos j)) (mul-pos D (pow_pos j)) y)

-- ---- a whole number below 2 ^ 64, rounded and then divided by 2 ^ 32, is the fraction rounded once

-- the two roundings have the same value, 2 ^ 32 apart
grid_32 : (n : ℕ) → 0 < n → grid binary64 n 1 ≡ grid binary64 n (2 ^ 32) * 2 ^ 32
grid_32 n N =
    grid_same binary64 n 1 (n * 2 ^ 32) (2 ^ 32) (zero-lt-suc 0) (pow_pos 32) (sym (mul-one (n * 2 ^ 32)))
    ∙ grid_scale binary64 n (2 ^ 32) 32 (pow_pos 32) (normal_of_fraction binary64 n (2 ^ 32) (pow_pos 32) (le_trans (lit≤ {m = 2 ^ 52 * 2 ^ 32} {n = 1 * 2 ^ 1074} tt) (mul-le-mul_right (2 ^ 1074) N)))

module _ (s : Bool) (n : ℕ) (N : 0 < n) (B : n ≤ 2 ^ 64) where
  whole_under : grid binary64 n 1 < overflow binary64
  whole_under = no_overflow binary64 n 1 65 (zero-lt-suc 0) (lit≤ tt) (lit≤ tt) (lt_of_le_of_lt B (lit< tt))

  part_under : grid binary64 n (2 ^ 32) < overflow binary64
  part_under = lt_of_le_of_lt (le_trans (le_of_eq (sym (mul-one (grid binary64 n (2 ^ 32))))) (le_trans (mul-le-mul_left (grid binary64 n (2 ^ 32)) (lit≤ {m = 1} {n = 2 ^ 32} tt)) (le_of_eq (sym (grid_32 n N))))) whole_under

  pub part_32 : div binary64 (round binary64 s n 1) (fin false 1 (pos 32)) ≡ round binary64 s n (2 ^ 32)
  part_32 =
      div_at binary64 (round binary64 s n 1) (fin false 1 (pos 32)) s false (grid binary64 n 1) (2 ^ 1074) (2 ^ 32) 1 (pow_pos 1074) (zero-lt-suc 0) (pow_pos 32) (round_value binary64 s n 1 whole_under) (refl, refl)
      ∙ ap (λ (b : Bool). round binary64 b (grid binary64 n 1 * 1) (2 ^ 32 * 2 ^ 1074)) (like_plus s)
      ∙ round_same binary64 s (grid binary64 n 1 * 1) (2 ^ 32 * 2 ^ 1074) (grid binary64 n (2 ^ 32)) (2 ^ 1074) (mul-pos (pow_pos 32) (pow_pos 1074)) (pow_pos 1074)
      (ap (λ (z : ℕ). z * 2 ^ 1074) (mul-one (grid binary64 n 1) ∙ grid_32 n N) ∙ mul_assoc (grid binary64 n (2 ^ 32)) (2 ^ 32) (2 ^ 1074))
      ∙ round_fit binary64 (round binary64 s n (2 ^ 32)) s (grid binary64 n (2 ^ 32)) (2 ^ 1074) (pow_pos 1074) (round-fits binary64 s n (2 ^ 32)) (round_value binary64 s n (2 ^ 32) part_under)
