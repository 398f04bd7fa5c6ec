-- Seconds to units, as `from_seconds` does it: the product with 2 ^ 32 is exact, and where the number of units fits 64 signed bits.
-- The idea: from 2 ^ 20 seconds on a binary64 is a whole number of units, so the ends of the range are exact. Assumes nothing.
use Rattle.std.proofs.Common.{◌≡◌, ℕ, zero, suc, ◌+◌, ◌-◌, ◌*◌, ◌^◌, ◌<◌, ◌≤◌, Bool, true, false, not, ◌&&◌, ◌||◌, T, eqb, ltb, ◌⊎◌, ℤ, pos, negsuc, neg_ℤ, sym, refl, ap, ◌∙◌, subst, inl, inr, le_trans, le_of_eq, lt_of_lt_of_le, lt_of_le_of_lt, le_of_lt, lt_irrefl, zero-lt-suc, mul_assoc, lt_of_mul-lt-mul_right, mul-lt-mul_of_pos_right, mul-pos, lt_of_not-le, zero-mul, mul-one, arith, lit<, lit≤, eqb→eq, ltb→lt, lt→ltb, nltb→le, pow_pos, pow_mono, pow-add, le-ltb, lt-ltb}
use lib.Signed.{mag}
use lib.Dec.{eqb_refl}
use lib.Ieee.{Float, nan, inf, fin, binary64, up, down, round, mul, neg, lt, le, eq, is_nan, fits}
use lib.Ieee.Digits.{back}
use lib.Ieee.Fits.{up_pos, down_pos}
use lib.Ieee.Exact.{HasValue}
use lib.Ieee.Nearest.{closest, closest_same, closest_mono}
use lib.Ieee.Positive.{num, den, positive, den_pos, value→cross, positive_of_value, first_pos, cross→le}
use Rattle.timestamp.specs.Answer.{taken, refused, from_seconds}
use Rattle.laws.proofs.Near.{closest_whole}
use Rattle.laws.proofs.Fit.{room_of, scaled_val}
use Rattle.laws.proofs.Tests.{lt_pow, nlt_pow, lt_of_value}

-- ---- the product with 2 ^ 32

-- n / d seconds in units
abbrev units_near : ℕ → ℕ → ℕ
units_near n d = closest (n * 2 ^ 32) d

mul_is : (m : ℕ) (e : ℤ) → mul binary64 (fin false m e) (fin false 1 (pos 32)) ≡ round binary64 false (m * up e * 2 ^ 32) (down e)
unfolding mul
mul_is m e = ap (λ (d : ℕ). round binary64 false (m * up e * 2 ^ 32) d) (mul-one (down e))

times : (n d : ℕ) → n ≤ 2147483648 * d → n * 4294967296 ≤ 9223372036854775808 * d
times n d h = omega arith

abbrev pub Scaled : Float → Type 0
Scaled a = T (positive (mul binary64 a (fin false 1 (pos 32)))) × T (lt (mul binary64 a (fin false 1 (pos 32))) (fin false 1 (pos 64)))
    × (closest (num (mul binary64 a (fin false 1 (pos 32)))) (den (mul binary64 a (fin false 1 (pos 32)))) ≡ units_near (num a) (den a))

pub scaled : (a : Float) → T (fits binary64 a) → T (positive a) → num a ≤ 2 ^ 31 * den a → Scaled a
scaled nan F p h = absurd p
scaled (inf s) F p h = absurd p
scaled (fin true m e) F p h = absurd p
scaled (fin false m e) F p h =
    let n = m * up e in
    let d = down e in
    let D = down_pos e in
    let z = mul binary64 (fin false m e) (fin false 1 (pos 32)) in
    let t : n * 2 ^ 32 ≤ 2 ^ 63 * d = times n d h in
    let v : HasValue z false (n * 2 ^ 32) d =
    subst (λ (x : Float). HasValue x false (n * 2 ^ 32) d) (sym (mul_is m e)) (scaled_val binary64 false m e 32 F (lt_of_le_of_lt t (mul-lt-mul_of_pos_right (lit< tt) D))) in (
      positive_of_value z (n * 2 ^ 32) d v (mul-pos (mul-pos (ltb→lt 0 m p) (up_pos e)) (pow_pos 32)),
      lt_of_value z (n * 2 ^ 32) d 64 D v (lt_of_le_of_lt t (mul-lt-mul_of_pos_right (lit< tt) D)),
      closest_same (num z) (den z) (n * 2 ^ 32) d (den_pos z) D (value→cross z (n * 2 ^ 32) d v),
    )

-- ---- how many units there are

pub most : (n d : ℕ) → 0 < d → n ≤ 2 ^ 31 * d → units_near n d ≤ 2 ^ 63
most n d D h = le_trans (closest_mono (n * 2 ^ 32) d (2 ^ 63) 1 D (zero-lt-suc 0) (le_trans (le_of_eq (mul-one (n * 2 ^ 32))) (times n d h))) (lit≤ tt)

pub least : (n d : ℕ) → 0 < d → 2 ^ 31 * d ≤ n → 2 ^ 63 ≤ units_near n d
least n d D h = le_trans (lit≤ tt) (closest_mono (2 ^ 63) 1 (n * 2 ^ 32) d (zero-lt-suc 0) D (le_trans (go n d h) (le_of_eq (sym (mul-one (n * 2 ^ 32))))))
  where
    go : (n d : ℕ) → 2147483648 * d ≤ n → 9223372036854775808 * d ≤ n * 4294967296
    go n d h = omega arith

small : (n d : ℕ) → 0 < d → n < 2 ^ 20 * d → units_near n d ≤ 2 ^ 52
small n d D h = le_trans (closest_mono (n * 2 ^ 32) d (2 ^ 52) 1 D (zero-lt-suc 0) (le_trans (le_of_eq (mul-one (n * 2 ^ 32))) (go n d h))) (lit≤ tt)
  where
    go : (n d : ℕ) → n < 1048576 * d → n * 4294967296 ≤ 4503599627370496 * d
    go n d h = omega arith

-- from 2 ^ 20 seconds on a binary64 is a whole number of units
few : (k m : ℕ) → m < 2 ^ 53 → 2 ^ 20 * 2 ^ suc k ≤ m * 1 → suc k ≤ 32
few k m h g = go k (lt_of_not-le (λ (b : 53 ≤ 20 + suc k). lt_irrefl (2 ^ 53) (lt_of_le_of_lt (le_trans (pow_mono b) (le_trans (le_of_eq (pow-add 2 20 (suc k))) (le_trans g (le_of_eq (mul-one m))))) h)))
  where
    go : (k : ℕ) → 20 + suc k < 53 → suc k ≤ 32
    go k h = omega arith

exact : (s : Bool) (m : ℕ) (e : ℤ) → T (fits binary64 (fin s m e)) → 2 ^ 20 * down e ≤ m * up e → units_near (m * up e) (down e) * down e ≡ m * up e * 2 ^ 32
exact s m (pos k) F h = mul-one (closest (m * 2 ^ k * 2 ^ 32) 1) ∙ ap (λ (z : ℕ). closest z 1) (sym (mul-one (m * 2 ^ k * 2 ^ 32))) ∙ closest_whole (m * 2 ^ k * 2 ^ 32) 1 (zero-lt-suc 0)
exact s m (negsuc k) F h =
    let d = 2 ^ suc k in
    let i = few k m (room_of binary64 s m (negsuc k) F).0 h in
    let w : m * 1 * 2 ^ 32 ≡ m * 1 * 2 ^ (32 - suc k) * d =
    ap (λ (z : ℕ). m * 1 * z) (ap (λ (z : ℕ). 2 ^ z) (sym (back 32 (suc k) i)) ∙ pow-add 2 (32 - suc k) (suc k)) ∙ sym (mul_assoc (m * 1) (2 ^ (32 - suc k)) d) in
    ap (λ (z : ℕ). z * d) (ap (λ (z : ℕ). closest z d) w ∙ closest_whole (m * 1 * 2 ^ (32 - suc k)) d (pow_pos (suc k))) ∙ sym w

pub below : (s : Bool) (m : ℕ) (e : ℤ) → T (fits binary64 (fin s m e)) → m * up e < 2 ^ 31 * down e → units_near (m * up e) (down e) < 2 ^ 63
below s m e F h = go (ltb (m * up e) (2 ^ 20 * down e)) (ltb→lt (m * up e) (2 ^ 20 * down e)) (nltb→le (m * up e) (2 ^ 20 * down e))
  where
    times' : (n d : ℕ) → n < 2147483648 * d → n * 4294967296 < 9223372036854775808 * d
    times' n d h = omega arith

    go : (b : Bool) → (T b → m * up e < 2 ^ 20 * down e) → (T (not b) → 2 ^ 20 * down e ≤ m * up e) → units_near (m * up e) (down e) < 2 ^ 63
    go true a b = lt_of_le_of_lt (small (m * up e) (down e) (down_pos e) (a tt)) (lit< tt)
    go false a b = lt_of_mul-lt-mul_right (down e) (lt_of_le_of_lt (le_of_eq (exact s m e F (b tt))) (times' (m * up e) (down e) h))

pub above : (s : Bool) (m : ℕ) (e : ℤ) → T (fits binary64 (fin s m e)) → 2 ^ 31 * down e < m * up e → 2 ^ 63 < units_near (m * up e) (down e)
above s m e F h = lt_of_mul-lt-mul_right (down e) (lt_of_lt_of_le (times' (m * up e) (down e) h) (le_of_eq (sym (exact s m e F (far (m * up e) (down e) h)))))
  where
    far : (n d : ℕ) → 2147483648 * d < n → 1048576 * d ≤ n
    far n d h = omega arith

    times' : (n d : ℕ) → 2147483648 * d < n → 9223372036854775808 * d < n * 4294967296
    times' n d h = omega arith

-- ---- what the tests of `from_seconds` say of y, and what `from_seconds` then is

abbrev pub zero64 : Float
zero64 = fin false 0 (pos 0)

abbrev pub units_of : Float → ℕ
units_of y = units_near (num y) (den y)

tidy : (n d : ℕ) → 0 * d < n * 1 → 0 < n
tidy n d h = omega arith

abbrev pub Up : Float → Type 0
Up y = T (positive y) × T (le y (fin false 1 (pos 31))) × (units_of y < 2 ^ 63) × (from_seconds y ≡ taken (pos (units_of y)))

pub going_up : (y : Float) → T (fits binary64 y) → T (lt zero64 y) → T (lt y (fin false 1 (pos 31))) → Up y
unfolding lt from_seconds
going_up nan F a b = absurd a
going_up (inf true) F a b = absurd a
going_up (inf false) F a b = absurd b
going_up (fin true m e) F a b = absurd a
going_up (fin false m e) F a b =
    let p : T (positive (fin false m e)) = lt→ltb 0 m (first_pos m (up e) (tidy (m * up e) (down e) (ltb→lt (0 * down e) (m * up e * 1) a))) in
    let h : m * up e < 2 ^ 31 * down e = lt_pow (fin false m e) 31 p (unfold lt in b) in
    let u = below false m e F h in
    (p, cross→le (fin false m e) (fin false 1 (pos 31)) p tt (le_trans (le_of_eq (mul-one (m * up e))) (le_of_lt h)), u, simp (lt-ltb _ _ u))

pub too_high : (y : Float) → T (lt zero64 y) → T (not (lt y (fin false 1 (pos 31)))) → refused 15 ≡ from_seconds y
unfolding lt from_seconds
too_high nan a b = absurd a
too_high (inf s) a b = refl
too_high (fin true m e) a b = absurd a
too_high (fin false m e) a b =
    let p : T (positive (fin false m e)) = lt→ltb 0 m (first_pos m (up e) (tidy (m * up e) (down e) (ltb→lt (0 * down e) (m * up e * 1) a))) in
    let h : 2 ^ 31 * down e ≤ m * up e = nlt_pow (fin false m e) 31 p b in
    simp (le-ltb _ _ (least (m * up e) (down e) (down_pos e) h))

either : (p q : Bool) → T (p || (q && true)) → T p ⊎ T q
either true q h = inl tt
either false true h = inr tt
either false false h = absurd h

neither : (p q : Bool) → T (not (p || (q && true))) → T (not p) × T (not q)
neither true q h = absurd h
neither false true h = absurd h
neither false false h = (tt, tt)

le_from : (a b : ℕ) → T (ltb a b || (eqb b a && true)) → a ≤ b
le_from a b h = elim (either (ltb a b) (eqb b a) h) [ inl u ↦ le_of_lt (ltb→lt a b u) | inr u ↦ le_of_eq (sym (eqb→eq b a u)) ]

lt_from : (a b : ℕ) → T (not (ltb a b || (eqb b a && true))) → b < a
lt_from a b h =
    let z = neither (ltb a b) (eqb b a) h in
    go (nltb→le a b z.0) (λ (e : a ≡ b). no_T (eqb b a) z.1 (subst (λ (k : ℕ). T (eqb b k)) (sym e) (eqb_refl b)))
  where
    no_T : (t : Bool) → T (not t) → T t → ⊥
    no_T true a b = a
    no_T false a b = b

    go : b ≤ a → (a ≡ b → ⊥) → b < a
    go h k = omega arith

tidy_neg : (n d : ℕ) → 0 < n * 1 + 0 * d → 0 < n
tidy_neg n d h = omega arith

tidy_le : (n d : ℕ) → n * 1 ≤ 2147483648 * d → n ≤ 2147483648 * d
tidy_le n d h = omega arith

tidy_lt : (n d : ℕ) → 2147483648 * d < n * 1 → 2147483648 * d < n
tidy_lt n d h = omega arith

-- the range's lower end
neg_in : (q : ℕ) → q ≤ 2 ^ 63 → ltb (mag (neg_ℤ (pos q))) (2 ^ 63) ≡ true
neg_in zero h = refl
neg_in (suc n) h = lt-ltb n (2 ^ 63) (omega arith)

neg_out : (q : ℕ) → 2 ^ 63 < q → ltb (mag (neg_ℤ (pos q))) (2 ^ 63) ≡ false
neg_out zero h = absurd (omega arith)
neg_out (suc n) h = le-ltb n (2 ^ 63) (omega arith)

abbrev pub Down : Float → Type 0
Down y = T (positive (neg y)) × T (le (neg y) (fin false 1 (pos 31))) × (units_of (neg y) ≤ 2 ^ 63) × (from_seconds y ≡ taken (neg_ℤ (pos (units_of (neg y)))))

pub going_down : (y : Float) → T (lt y zero64) → T (le (fin true 1 (pos 31)) y) → Down y
unfolding lt le eq neg from_seconds
going_down nan a b = absurd a
going_down (inf true) a b = absurd b
going_down (inf false) a b = absurd a
going_down (fin false m e) a b = absurd (go (m * up e) (down e) (ltb→lt (m * up e * 1) (0 * down e) a))
  where
    go : (n d : ℕ) → n * 1 < 0 * d → ⊥
    go n d h = omega arith
going_down (fin true m e) a b =
    let p : T (positive (fin false m e)) = lt→ltb 0 m (first_pos m (up e) (tidy_neg (m * up e) (down e) (ltb→lt 0 (m * up e * 1 + 0 * down e) a))) in
    let h : m * up e ≤ 2 ^ 31 * down e = tidy_le (m * up e) (down e) (le_from (m * up e * 1) (1 * 2 ^ 31 * down e) b) in
    let u = most (m * up e) (down e) (down_pos e) h in
    (p, cross→le (fin false m e) (fin false 1 (pos 31)) p tt (le_trans (le_of_eq (mul-one (m * up e))) h), u, simp (neg_in _ u))

pub too_low : (y : Float) → T (fits binary64 y) → T (lt y zero64) → T (not (le (fin true 1 (pos 31)) y)) → refused 15 ≡ from_seconds y
unfolding lt le eq from_seconds
too_low nan F a b = absurd a
too_low (inf s) F a b = refl
too_low (fin false m e) F a b = absurd (go (m * up e) (down e) (ltb→lt (m * up e * 1) (0 * down e) a))
  where
    go : (n d : ℕ) → n * 1 < 0 * d → ⊥
    go n d h = omega arith
too_low (fin true m e) F a b =
    let h : 2 ^ 31 * down e < m * up e = tidy_lt (m * up e) (down e) (lt_from (m * up e * 1) (1 * 2 ^ 31 * down e) b) in
    simp (neg_out _ (above true m e F h))

zero_units : (n d : ℕ) → 0 < d → n ≡ 0 → units_near n d ≡ 0
zero_units n d D h = ap (λ (z : ℕ). closest (z * 2 ^ 32) d) h ∙ ap (λ (z : ℕ). closest z d) (sym (zero-mul d)) ∙ closest_whole 0 d D

pub at_zero : (y : Float) → T (not (lt zero64 y)) → T (not (lt y zero64)) → T (not (is_nan y)) → taken (pos 0) ≡ from_seconds y
unfolding lt eq is_nan from_seconds
at_zero nan a b c = absurd c
at_zero (inf true) a b c = absurd b
at_zero (inf false) a b c = absurd a
at_zero (fin false m e) a b c = simp (zero_units (m * up e) (down e) (down_pos e) (go (m * up e) (down e) (nltb→le (0 * down e) (m * up e * 1) a)))
  where
    go : (n d : ℕ) → n * 1 ≤ 0 * d → n ≡ 0
    go n d h = omega arith
at_zero (fin true m e) a b c = simp (zero_units (m * up e) (down e) (down_pos e) (go (m * up e) (down e) (nltb→le 0 (m * up e * 1 + 0 * down e) b)))
  where
    go : (n d : ℕ) → n * 1 + 0 * d ≤ 0 → n ≡ 0
    go n d h = omega arith

pub at_nan : (y : Float) → T (is_nan y) → refused 15 ≡ from_seconds y
unfolding is_nan from_seconds
at_nan nan h = refl
at_nan (inf s) h = absurd h
at_nan (fin s m e) h = absurd h
