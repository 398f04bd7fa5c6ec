-- A test's answer as a fact, tests joined by "and" and "or", and the tests of a float against a power of two, zero and the infinities.
-- The idea: a joined test goes by its first; a test on floats computes to one on the fractions' cross products. Assumes nothing.
use mathlib.Core.Path.{◌≡◌, refl, sym, ap, subst}
use mathlib.Core.Bool.{Bool, true, false, not, ◌&&◌, ◌||◌, true≢false, false≢true}
use Prim.Native.Nat.{ℕ, ◌+◌, ◌*◌, ◌^◌, ◌≤◌, ◌<◌}
use native.Mathlib.Nat.{le_trans, le_of_eq, lt_of_lt_of_le, lt_of_le_of_lt, mul-one, one-mul, mul_right_comm, mul-le-mul_left, mul-le-mul_right, mul-lt-mul_of_pos_right, lt_of_mul-lt-mul_right}
use native.Mathlib.Omega.{arith}
use lib.IntN.{ℤ, pos}
use lib.Dec.{T, ltb→lt, lt→ltb, nltb→le}
use lib.Pow.{pow_pos}
use lib.Ieee.{Float, nan, inf, fin, up, down, lt}
use lib.Ieee.Fits.{up_pos, down_pos}
use lib.Ieee.Exact.{HasValue}
use lib.Ieee.Positive.{num, den, positive, first_pos}
use lib.Ieee.Scale.{finite}
use borrow.Author.Tests.{lt-ltb, le-ltb}

pub yes : {b : Bool} → b ≡ true → T b
yes h = subst T (sym h) tt

pub no : {b : Bool} → b ≡ false → T (not b)
no h = subst (λ (a : Bool). T (not a)) (sym h) tt

-- ---- two tests at once
pub both : {a b : Bool} → a ≡ true → b ≡ true → (a && b) ≡ true
both p q = rw (p, q)

pub one_of : (a b : Bool) → (a && b) ≡ true → a ≡ true
one_of true b h = refl
one_of false b h = h

pub other_of : (a b : Bool) → (a && b) ≡ true → b ≡ true
other_of true b h = h
other_of false b h = absurd (false≢true h)

pub neither : (a b : Bool) → (a || b) ≡ false → (a ≡ false) × (b ≡ false)
neither true b e = (e, cc)
neither false b e = (refl, e)

-- ---- a power of two
pub lt_pow : (x : Float) (w : ℕ) → T (positive x) → T (lt x (fin false 1 (pos w))) → num x < 2 ^ w * den x
unfolding lt
lt_pow nan w p h = absurd p
lt_pow (inf s) w p h = absurd p
lt_pow (fin true m e) w p h = absurd p
lt_pow (fin false m e) w p h = subst (λ (k : ℕ). m * up e < k * down e) (one-mul (2 ^ w)) (subst (λ (k : ℕ). k < 1 * 2 ^ w * down e) (mul-one (m * up e)) (ltb→lt (m * up e * 1) (1 * 2 ^ w * down e) h))

pub nlt_pow : (x : Float) (w : ℕ) → T (positive x) → T (not (lt x (fin false 1 (pos w)))) → 2 ^ w * den x ≤ num x
unfolding lt
nlt_pow nan w p h = absurd p
nlt_pow (inf s) w p h = absurd p
nlt_pow (fin true m e) w p h = absurd p
nlt_pow (fin false m e) w p h = subst (λ (k : ℕ). k * down e ≤ m * up e) (one-mul (2 ^ w)) (subst (λ (k : ℕ). 1 * 2 ^ w * down e ≤ k) (mul-one (m * up e)) (nltb→le (m * up e * 1) (1 * 2 ^ w * down e) h))

pub minus_one_lt : (x : Float) → T (positive x) → T (lt (fin true 1 (pos 0)) x)
unfolding lt
minus_one_lt nan p = absurd p
minus_one_lt (inf s) p = absurd p
minus_one_lt (fin true m e) p = absurd p
minus_one_lt (fin false m e) p = lt→ltb 0 (1 * down e + m * up e * 1) (some (down e) (m * up e) (down_pos e))
  where
    some : (d n : ℕ) → 0 < d → 0 < 1 * d + n * 1
    some d n h = omega arith

pub lt_of_value : (x : Float) (a c w : ℕ) → 0 < c → HasValue x false a c → a < 2 ^ w * c → T (lt x (fin false 1 (pos w)))
unfolding lt
lt_of_value nan a c w C v h = absurd v
lt_of_value (inf s) a c w C v h = absurd v
lt_of_value (fin true m e) a c w C v h = absurd (true≢false v.0)
lt_of_value (fin false m e) a c w C v h =
    lt→ltb (m * up e * 1) (1 * 2 ^ w * down e)
    (lt_of_le_of_lt (le_of_eq (mul-one (m * up e)))
    (lt_of_lt_of_le
    (lt_of_mul-lt-mul_right c (lt_of_le_of_lt (le_of_eq v.1) (lt_of_lt_of_le (mul-lt-mul_of_pos_right h (down_pos e)) (le_of_eq (mul_right_comm (2 ^ w) c (down e))))))
    (le_of_eq (ap (λ (z : ℕ). z * down e) (sym (one-mul (2 ^ w)))))))

some_more : (a d p : ℕ) → 0 < d → 0 < p → 0 < a * 1 + 1 * p * d
some_more a d p D P = let k : 1 * d ≤ p * d = mul-le-mul_right d P in omega arith

-- what has a sign is below each
pub lt_of_sign : (m : ℕ) (e : ℤ) (w : ℕ) → T (lt (fin true m e) (fin false 1 (pos w)))
unfolding lt
lt_of_sign m e w = lt→ltb 0 (m * up e * 1 + 1 * 2 ^ w * down e) (some_more (m * up e) (down e) (2 ^ w) (down_pos e) (pow_pos w))

pub lt_of_minus : (x : Float) (a c w : ℕ) → HasValue x true a c → T (lt x (fin false 1 (pos w)))
lt_of_minus nan a c w v = absurd v
lt_of_minus (inf s) a c w v = absurd v
lt_of_minus (fin true m e) a c w v = lt_of_sign m e w
lt_of_minus (fin false m e) a c w v = absurd (true≢false (sym v.0))

-- ---- zero and the infinities
pub positive_is : (x : Float) → T (lt (fin false 0 (pos 0)) x) → lt x (inf false) ≡ positive x
unfolding lt
positive_is nan h = absurd h
positive_is (inf true) h = absurd h
positive_is (inf false) h = refl
positive_is (fin true m e) h = absurd h
positive_is (fin false m e) h = sym (lt-ltb 0 m (first_pos m (up e) (go (m * up e) (down e) (ltb→lt (0 * down e) (m * up e * 1) h))))
  where
    go : (n d : ℕ) → 0 * d < n * 1 → 0 < n
    go n d h = omega arith

pub not_positive : (x : Float) → T (not (lt (fin false 0 (pos 0)) x)) → false ≡ positive x
unfolding lt
not_positive nan h = refl
not_positive (inf s) h = refl
not_positive (fin true m e) h = refl
not_positive (fin false m e) h = sym (le-ltb 0 m (go m (m * up e) (down e) (le_trans (le_of_eq (sym (mul-one m))) (mul-le-mul_left m (up_pos e))) (nltb→le (0 * down e) (m * up e * 1) h)))
  where
    go : (m n d : ℕ) → m ≤ n → n * 1 ≤ 0 * d → m ≤ 0
    go m n d g h = omega arith

pub finite_is : (x : Float) → T (lt x (inf false)) → lt (inf true) x ≡ finite x
unfolding lt
finite_is nan h = absurd h
finite_is (inf true) h = refl
finite_is (inf false) h = absurd h
finite_is (fin s m e) h = refl

pub not_finite : (x : Float) → T (not (lt x (inf false))) → false ≡ finite x
unfolding lt
not_finite nan h = refl
not_finite (inf true) h = absurd h
not_finite (inf false) h = refl
not_finite (fin s m e) h = absurd h
