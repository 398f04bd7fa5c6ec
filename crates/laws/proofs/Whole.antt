-- A value above zero rounded to the nearest whole number, a tie to the even one, by one sum with 2 ^ 52.
-- The idea: from 2 ^ 52 on the format has whole numbers only, so the sum's rounding is the one asked for. Assumes nothing.
use mathlib.Core.Path.{◌≡◌, refl, sym, ap, ◌∙◌, subst}
use mathlib.Core.Bool.{Bool, true, false, true≢false}
use Prim.Native.Nat.{ℕ, suc, ◌+◌, ◌-◌, ◌*◌, ◌/◌, ◌%◌, ◌^◌, ◌≤◌, ◌<◌, compare, min, Ordering}
use native.Mathlib.Nat.{le_trans, le_of_eq, le_of_lt, lt_of_lt_of_le, lt_of_le_of_lt, lt_of_not-le, not-le_of_lt, lt_irrefl, zero-lt-suc, mul-one, mul_assoc, mul_right_comm, mul-le-mul_right, mul-lt-mul_of_pos_right, mul-pos, add-mul, le-div_iff_mul-le, div-lt_iff_lt-mul, eq_of_mul-eq-mul_right, mul-div_cancel, mod-lt, le-add_right, div-add-mod'}
use native.Mathlib.Omega.{arith}
use lib.IntN.{ℤ, pos, negsuc}
use lib.Dec.{T, lt→ltb, lit≤, lit<}
use lib.Arith.{digits_div, digits_mod}
use lib.Pow.{pow-add, pow_pos, pow_mono}
use lib.Ieee.{Float, nan, inf, fin, binary64, up, down, size, nearest, round, add, sum, lt, to_unsigned, fits}
use lib.Ieee.Digits.{size-lt, size-le}
use lib.Ieee.Fits.{down_pos}
use lib.Ieee.Exact.{HasValue}
use lib.Ieee.Nearest.{closest, closest_same, closest_mono}
use lib.Ieee.Scale.{grid, overflow}
use lib.Ieee.Positive.{num, den, positive}
use Rattle.laws.proofs.Near.{closest_whole}
use Rattle.laws.proofs.Round.{round_value}
use Rattle.laws.proofs.Fit.{room_of}

-- ---- `closest`

closest_one : (q : ℕ) → closest q 1 ≡ q
closest_one q = ap (λ (n : ℕ). closest n 1) (sym (mul-one q)) ∙ closest_whole q 1 (zero-lt-suc 0)

-- an even whole number more
up_even : (q k : ℕ) (o : Ordering) → k % 2 ≡ 0 → nearest (k + q) o ≡ k + nearest q o
up_even q k Ordering.lt h = refl
up_even q k Ordering.eq h = go q k h
  where
    go : (q k : ℕ) → k % 2 ≡ 0 → k + q + (k + q) % 2 ≡ k + (q + q % 2)
    go q k h = omega arith
up_even q k Ordering.gt h = go q k
  where
    go : (q k : ℕ) → suc (k + q) ≡ k + suc q
    go q k = omega arith

pub closest_add : (k a d : ℕ) → k % 2 ≡ 0 → 0 < d → closest (k * d + a) d ≡ k + closest a d
closest_add k a d E D =
    let w : k * d + a ≡ (k + a / d) * d + a % d =
    ap (λ (z : ℕ). k * d + z) (sym (div-add-mod' a d)) ∙ go (k * d) (a / d * d) (a % d) ∙ ap (λ (z : ℕ). z + a % d) (sym (add-mul k (a / d) d)) in
    let m : a % d < d = mod-lt a D in
    ap (λ (z : ℕ). nearest z (compare ((k * d + a) % d * 2) d)) (ap (λ (z : ℕ). z / d) w ∙ digits_div (k + a / d) m)
    ∙ ap (λ (z : ℕ). nearest (k + a / d) (compare (z * 2) d)) (ap (λ (z : ℕ). z % d) w ∙ digits_mod (k + a / d) m)
    ∙ up_even (a / d) k (compare (a % d * 2) d) E
  where
    go : (x y z : ℕ) → x + (y + z) ≡ x + y + z
    go x y z = omega arith

-- ---- n / d from 2 ^ 52 to 2 ^ 53: a binary64 there is a whole number

size_is : (n j : ℕ) → 2 ^ j ≤ n → n < 2 ^ suc j → size n ≡ suc j
size_is n j a b = go (size n) (size-le n (suc j) b) (lt_of_not-le (λ (g : size n ≤ j). not-le_of_lt (lt_of_lt_of_le (size-lt n) (pow_mono g)) a))
  where
    go : (z : ℕ) → z ≤ suc j → j < z → z ≡ suc j
    go z h k = omega arith

-- from one fraction to another of the same size
pub rescale : (x : Float) (s : Bool) (w l num den : ℕ) → 0 < l → num * l ≡ w * den → HasValue x s w l → HasValue x s num den
rescale nan s w l num den p h v = v
rescale (inf t) s w l num den p h v = v
rescale (fin t m e) s w l num den p h v = (
  v.0,
  eq_of_mul-eq-mul_right l p (m * up e * den) (num * down e)
      (mul_right_comm (m * up e) den l
      ∙ ap (λ (x : ℕ). x * den) v.1
      ∙ mul_right_comm w (down e) den
      ∙ ap (λ (x : ℕ). x * down e) (sym h)
      ∙ mul_right_comm num l (down e)),
)

module _ (N D : ℕ) (P : 0 < D) (lo : 2 ^ 52 * D ≤ N) (hi : N < 2 ^ 53 * D) where
  size_here : size (N * 2 ^ 1074 / D) ≡ 1127
  size_here = size_is (N * 2 ^ 1074 / D) 1126
      ((le-div_iff_mul-le P).1 (le_trans (le_of_eq (ap (λ (z : ℕ). z * D) (pow-add 2 52 1074) ∙ mul_right_comm (2 ^ 52) (2 ^ 1074) D)) (mul-le-mul_right (2 ^ 1074) lo)))
      ((div-lt_iff_lt-mul P).1 (lt_of_lt_of_le (mul-lt-mul_of_pos_right hi (pow_pos 1074)) (le_of_eq (sym (ap (λ (z : ℕ). z * D) (pow-add 2 53 1074) ∙ mul_right_comm (2 ^ 53) (2 ^ 1074) D)))))

  grid_here : grid binary64 N D ≡ closest N D * 2 ^ 1074
  grid_here =
      ap (λ (z : ℕ). closest (N * 2 ^ 1074) (D * 2 ^ (z - 53)) * 2 ^ (z - 53)) size_here
      ∙ ap (λ (z : ℕ). z * 2 ^ 1074) (closest_same (N * 2 ^ 1074) (D * 2 ^ 1074) N D (mul-pos P (pow_pos 1074)) P (mul_right_comm N (2 ^ 1074) D ∙ mul_assoc N D (2 ^ 1074)))

  closest_here : closest N D ≤ 2 ^ 53
  closest_here = le_trans (closest_mono N D (2 ^ 53) 1 P (zero-lt-suc 0) (le_trans (le_of_eq (mul-one N)) (le_of_lt hi))) (lit≤ tt)

  pub round_here : HasValue (round binary64 false N D) false (closest N D) 1
  round_here =
      rescale (round binary64 false N D) false (grid binary64 N D) (2 ^ 1074) (closest N D) 1 (pow_pos 1074) (sym (mul-one (grid binary64 N D) ∙ grid_here))
      (round_value binary64 false N D (subst (λ (z : ℕ). z < overflow binary64) (sym grid_here) (lt_of_le_of_lt (mul-le-mul_right (2 ^ 1074) closest_here) (lit< tt))))

-- ---- the sum with 2 ^ 52

add_is : (m : ℕ) (e : ℤ) → add binary64 (fin false m e) (fin false 1 (pos 52)) ≡ round binary64 false (m * up e * 1 + 1 * 2 ^ 52 * down e) (down e * 1)
unfolding add sum
add_is m e = refl

pub near : (z : Float) → T (positive z) → num z < 2 ^ 52 * den z → HasValue (add binary64 z (fin false 1 (pos 52))) false (2 ^ 52 + closest (num z) (den z)) 1
near nan p h = absurd p
near (inf s) p h = absurd p
near (fin true m e) p h = absurd p
near (fin false m e) p h =
    let n = m * up e in
    let d = down e in
    let N = 2 ^ 52 * d + n in
    let is : add binary64 (fin false m e) (fin false 1 (pos 52)) ≡ round binary64 false N d =
    add_is m e ∙ ap (λ (k : ℕ). round binary64 false k (d * 1)) (go n d) ∙ ap (λ (k : ℕ). round binary64 false N k) (mul-one d) in
    subst (λ (x : Float). HasValue x false (2 ^ 52 + closest n d) 1) (sym is)
    (subst (λ (k : ℕ). HasValue (round binary64 false N d) false k 1) (closest_add (2 ^ 52) n d refl (down_pos e))
    (round_here N d (down_pos e) (le-add_right (2 ^ 52 * d) n) (top n d h)))
  where
    go : (n d : ℕ) → n * 1 + 1 * 4503599627370496 * d ≡ 4503599627370496 * d + n
    go n d = omega arith

    top : (n d : ℕ) → n < 4503599627370496 * d → 4503599627370496 * d + n < 9007199254740992 * d
    top n d h = omega arith

-- ---- a whole value, cast

pub cast_of : (w : Float) (c : ℕ) → HasValue w false c 1 → c < 2 ^ 64 → T (lt (fin true 1 (pos 0)) w) × T (lt w (fin false 1 (pos 64))) × (to_unsigned 64 w ≡ c)
unfolding lt to_unsigned
cast_of nan c v h = absurd v
cast_of (inf s) c v h = absurd v
cast_of (fin true m e) c v h = absurd (true≢false v.0)
cast_of (fin false m e) c v h =
    let n = m * up e in
    let d = down e in
    let q : n / d ≡ c = ap (λ (k : ℕ). k / d) (sym (mul-one n) ∙ v.1) ∙ mul-div_cancel c (down_pos e) in (
      lt→ltb 0 (1 * d + n * 1) (some d n (down_pos e)),
      lt→ltb (n * 1) (1 * 2 ^ 64 * d) (subst (λ (k : ℕ). k < 1 * 2 ^ 64 * d) (sym v.1) (mul-lt-mul_of_pos_right h (down_pos e))),
      ap (λ (k : ℕ). min k (2 ^ 64 - 1)) q ∙ least c h,
    )
  where
    some : (d n : ℕ) → 0 < d → 0 < 1 * d + n * 1
    some d n h = omega arith

    least : (c : ℕ) → c < 18446744073709551616 → min c 18446744073709551615 ≡ c
    least c h = omega arith

-- ---- from 2 ^ 52 on a value is whole

wholly : (k n : ℕ) → n < 2 ^ 53 → 2 ^ 52 * 2 ^ suc k ≤ n → ⊥
wholly k n h g = lt_irrefl (2 ^ 53) (lt_of_le_of_lt (le_trans (pow_mono (go k)) (le_trans (le_of_eq (pow-add 2 52 (suc k))) g)) h)
  where
    go : (k : ℕ) → 53 ≤ 52 + suc k
    go k = omega arith

pub large : (z : Float) → T (fits binary64 z) → T (positive z) → 2 ^ 52 * den z ≤ num z → HasValue z false (closest (num z) (den z)) 1
large nan F p h = absurd p
large (inf s) F p h = absurd p
large (fin true m e) F p h = absurd p
large (fin false m (pos k)) F p h = (refl, mul-one (m * 2 ^ k) ∙ sym (closest_one (m * 2 ^ k)) ∙ sym (mul-one (closest (m * 2 ^ k) 1)))
large (fin false m (negsuc k)) F p h = absurd (wholly k m (room_of binary64 false m (negsuc k) F).0 (le_trans h (le_of_eq (mul-one m))))
