-- E with a loop, T(S(first) + S(length) * c) in five rounded f64 steps. It is D = first + length * c within 1 / 2 + 70 / 2 ^ 57 of |first| + length * c. So it is D itself,
-- in whole numbers, where |first| + length * c is 2 ^ 49 at most, which covers every position that a leg may have. Assumes nothing.
use Rattle.std.proofs.Common.{◌≡◌, ℕ, suc, ◌+◌, ◌-◌, ◌*◌, ◌^◌, ◌<◌, ◌≤◌, Bool, true, false, cond, not, T, ltb, leb, ◌⊎◌, ℤ, pos, negsuc, ◌+ℤ◌, neg_ℤ, nat_abs, sym, refl, ap, ◌∙◌, subst, inl, inr, le_trans, le_refl, lt_of_lt_of_le, lt_of_le_of_lt, le_of_lt, mul-le-mul_right, zero-lt-suc, mul_assoc, add-mul, mul-le-mul, add_comm, mul-le-mul_left, mul-lt-mul_of_pos_right, mul-pos, mul-one, mul_right_comm, not-le_of_lt, sub-le, arith, lit≤, ltb→lt, leb→le, nltb→le, pow_pos}
use lib.Dec.{nleb→lt}
use lib.IntN.{sub_ℕ}
use lib.Ieee.{Float, binary64, round, add, mul, of_int}
use lib.Ieee.Exact.{HasValue}
use lib.Ieee.Nearest.{closest}
use lib.Ieee.Scale.{grid, round_same}
use Rattle.timestamp.specs.Time.{signed, time, frames_of, loop_end}
use Rattle.laws.proofs.Near.{Near, closest_near}
use Rattle.laws.proofs.Round.{Multiple, grid_le, grid_multiple, no_overflow, round_value}
use Rattle.laws.proofs.Operations.{mul_at, add_at, add_up, add_down, sub_mul}
use Rattle.timestamp.proofs.Time.{whole_value, time_n, time_value}
use Rattle.timestamp.proofs.Frames.{L, H, step, frames_n, frames_n_le, frames_multiple, frames_off, S-value, S-value-neg}
use Rattle.laws.proofs.Error.{Rounded, Off, multiple_plus, multiple_minus, multiple_times, zero_or_more, rounded_units, off_weak, off_round, off_plus, off_times, off_minus, off_order, off_far, final}

wide : (R : ℕ) → R < 2 ^ 18 → R < 2 ^ 53
wide R r = omega arith

-- ---- n units rounded, and then divided by R: every n here is a multiple of a unit of time, so 0 or far from the subnormal range
unit_multiple : (n : ℕ) → Multiple H n → Multiple H (grid binary64 n L)
unit_multiple n (m, e) = grid_multiple binary64 n L m 1042 (pow_pos 1074) (ap (λ (z : ℕ). z * L) e)

enough : (R n : ℕ) → R < 2 ^ 18 → Multiple H n → (n ≡ 0) ⊎ (2 ^ 52 * R ≤ n)
enough R n r h = go (zero_or_more H n h)
  where
    go : (n ≡ 0) ⊎ (H ≤ n) → (n ≡ 0) ⊎ (2 ^ 52 * R ≤ n)
    go (inl e) = inl e
    go (inr l) = inr (le_trans (mul-le-mul_left (2 ^ 52) (le_of_lt r)) (le_trans (lit≤ tt) l))

unit_rounded : (n : ℕ) → Multiple H n → Rounded (grid binary64 n L) n
unit_rounded n h = subst (λ (z : ℕ). Rounded z n) (mul-one (grid binary64 n L)) (rounded_units n 1 (zero-lt-suc 0) (enough 1 n (lit≤ tt) h))

-- ---- S(length) * c
prod_n : ℕ → ℕ → ℕ → ℕ
prod_n R b c = grid binary64 (frames_n R b * c) L

prod_small : (R b c : ℕ) → R < 2 ^ 18 → b < 2 ^ 53 → c < 2 ^ 53 → frames_n R b * c < 2 ^ 93 * L
prod_small R b c r hb hc = lt_of_le_of_lt (mul-le-mul (frames_n_le R b r hb) (le_of_lt hc)) (lit≤ tt)

prod_value : (R b c : ℕ) → R < 2 ^ 18 → b < 2 ^ 53 → c < 2 ^ 53 → HasValue (mul binary64 (frames_of R (pos b)) (of_int binary64 (pos c))) false (prod_n R b c) L
unfolding prod_n
prod_value R b c r hb hc =
    subst (λ (z : Float). HasValue z false (grid binary64 (frames_n R b * c) L) L)
    (sym (mul_at binary64 (frames_of R (pos b)) (of_int binary64 (pos c)) false false (frames_n R b) L c 1 (pow_pos 1074) (zero-lt-suc 0) (S-value R b (wide R r) hb) (whole_value c hc)))
    (round_value binary64 false (frames_n R b * c) L (no_overflow binary64 (frames_n R b * c) L 93 (pow_pos 1074) (lit≤ tt) (lit≤ tt) (prod_small R b c r hb hc)))

prod_le : (R b c : ℕ) → R < 2 ^ 18 → b < 2 ^ 53 → c < 2 ^ 53 → prod_n R b c ≤ 2 ^ 93 * L
unfolding prod_n
prod_le R b c r hb hc = grid_le binary64 (frames_n R b * c) L 93 (pow_pos 1074) (lit≤ tt) (prod_small R b c r hb hc)

before : (R b c : ℕ) → Multiple H (frames_n R b * c)
before R b c = multiple_times H (frames_n R b) c (frames_multiple R b)

prod_multiple : (R b c : ℕ) → Multiple H (prod_n R b c)
unfolding prod_n
prod_multiple R b c = unit_multiple (frames_n R b * c) (before R b c)

prod_off : (R b c : ℕ) → Off 17 (prod_n R b c) (b * c * step R) (b * c * step R)
unfolding prod_n
prod_off R b c =
    subst (λ (z : ℕ). Off 17 (grid binary64 (frames_n R b * c) L) z z) (mul_right_comm b (step R) c)
    (off_round 8 (frames_n R b * c) (grid binary64 (frames_n R b * c) L) (b * step R * c) (b * step R * c) (lit≤ tt) (le_refl (b * step R * c))
    (off_times 8 (frames_n R b) (b * step R) (b * step R) c (frames_off R b)) (unit_rounded (frames_n R b * c) (before R b c)))

-- ---- the last two roundings, of a sum that is n units in size, and then the nearest unit of time
-- 2 ^ 57 * |E - D| ≤ 70 * w + 2 ^ 56
abbrev pub Within : ℕ → ℕ → ℕ → Type 0
Within E D w = (2 ^ 57 * E ≤ 2 ^ 57 * D + 70 * w + 2 ^ 56) × (2 ^ 57 * D ≤ 2 ^ 57 * E + 70 * w + 2 ^ 56)

to_units : (E g h : ℕ) → Near E (g * 2 ^ 32) (h * 2 ^ 32) → (2 * (E * h) ≤ 2 * g + h) × (2 * g ≤ 2 * (E * h) + h)
to_units E g h n = omega arith

last : (R : ℕ) (s : Bool) (n D w : ℕ) → 0 < R → R < 2 ^ 18 → n < 2 ^ 95 * L → Multiple H n → D ≤ w → Off 17 n (D * step R) (w * step R)
    → (E : ℕ) × (time R (round binary64 s n L) ≡ signed s E) × Within E D w
unfolding time_n
last R s n D w r r' small h le o =
    let N = step R in
    let q = grid binary64 n L in
    let g = grid binary64 q (R * L) in
    let E = closest (g * 2 ^ 32) L in
    let z : D * N ≤ w * N = mul-le-mul_right N le in
    let oq : Off 26 q (D * N) (w * N) = off_round 17 n q (D * N) (w * N) (lit≤ tt) z o (unit_rounded n h) in
    let og : Off 35 (g * R) (D * N) (w * N) = off_round 26 q (g * R) (D * N) (w * N) (lit≤ tt) z oq (rounded_units q R r (enough R q r' (unit_multiple n h))) in
    let ql : q ≤ 2 ^ 95 * L = grid_le binary64 n L 95 (pow_pos 1074) (lit≤ tt) small in
    let qs : q < 2 ^ 96 * (R * L) = lt_of_le_of_lt ql (lt_of_lt_of_le (lit≤ tt) (mul-le-mul_left (2 ^ 96) (mul-le-mul_right L r))) in
    let c = to_units E g H (closest_near (g * 2 ^ 32) L (pow_pos 1074)) in (
      E,
      time_value R (round binary64 s n L) s q L r (wide R r') (pow_pos 1074) (round_value binary64 s n L (no_overflow binary64 n L 95 (pow_pos 1074) (lit≤ tt) (lit≤ tt) small))
          (no_overflow binary64 q (R * L) 96 (mul-pos r (pow_pos 1074)) (lit≤ tt) (lit≤ tt) qs),
      final E g H D R w r (pow_pos 1042) og c.0 c.1,
    )

-- ---- where first is not negative
same_unit : (x y l : ℕ) → (x * l + y * l) * l ≡ (x + y) * (l * l)
same_unit x y l = omega arith

add_units : (x y : Float) (a b : ℕ) → HasValue x false a L → HasValue y false b L → add binary64 x y ≡ round binary64 false (a + b) L
add_units x y a b h k = add_at binary64 x y a L b L (pow_pos 1074) (pow_pos 1074) h k ∙ round_same binary64 false (a * L + b * L) (L * L) (a + b) L (pow_pos 2148) (pow_pos 1074) (same_unit a b L)

sum_small : (x y : ℕ) → x ≤ 2 ^ 39 * L → y ≤ 2 ^ 93 * L → x + y < 2 ^ 95 * L
sum_small x y h k = go x y (2 ^ 93 * L) (pow_pos 1167) (le_trans h (lit≤ tt)) k
  where
    go : (x y m : ℕ) → 0 < m → x ≤ m → y ≤ m → x + y < 4 * m
    go x y m p h k = omega arith

first_off : (R a : ℕ) → Off 17 (frames_n R a) (a * step R) (a * step R)
first_off R a = off_weak 17 8 (frames_n R a) (a * step R) (a * step R) (lit≤ tt) (frames_off R a)

pub E-near : (R a b c : ℕ) → 0 < R → R < 2 ^ 18 → a < 2 ^ 53 → b < 2 ^ 53 → c < 2 ^ 53 → (E : ℕ) × (loop_end R (pos a) (pos b) c ≡ pos E) × Within E (a + b * c) (a + b * c)
unfolding loop_end
E-near R a b c r r' ha hb hc =
    let x = frames_n R a in
    let y = prod_n R b c in
    let D = a + b * c in
    let N = step R in
    let o : Off 17 (x + y) (D * N) (D * N) =
    subst (λ (z : ℕ). Off 17 (x + y) z z) (sym (add-mul a (b * c) N)) (off_plus 17 x (a * N) (a * N) y (b * c * N) (b * c * N) (first_off R a) (prod_off R b c)) in
    let e = last R false (x + y) D D r r' (sum_small x y (frames_n_le R a r' ha) (prod_le R b c r' hb hc)) (multiple_plus H x y (frames_multiple R a) (prod_multiple R b c)) (le_refl D) o in
    (e.0, ap (λ (z : Float). time R z) (add_units (frames_of R (pos a)) (mul binary64 (frames_of R (pos b)) (of_int binary64 (pos c))) x y (S-value R a (wide R r') ha) (prod_value R b c r' hb hc)) ∙ e.1, e.2)

-- ---- where first is negative, and all is 2 ^ 49 at most
less_unit : (x y l : ℕ) → (x * l - y * l) * l ≡ (x - y) * (l * l)
less_unit x y l = ap (λ (z : ℕ). z * l) (sym (sub_mul x y l)) ∙ mul_assoc (x - y) l l

up_units : (x y : Float) (a b : ℕ) → HasValue x true a L → HasValue y false b L → a ≤ b → add binary64 x y ≡ round binary64 false (b - a) L
up_units x y a b h k l =
    add_up binary64 x y a L b L (pow_pos 1074) (pow_pos 1074) h k (mul-le-mul_right L l) ∙ round_same binary64 false (b * L - a * L) (L * L) (b - a) L (pow_pos 2148) (pow_pos 1074) (less_unit b a L)

down_units : (x y : Float) (a b : ℕ) → HasValue x true a L → HasValue y false b L → b < a → add binary64 x y ≡ round binary64 true (a - b) L
down_units x y a b h k l =
    add_down binary64 x y a L b L (pow_pos 1074) (pow_pos 1074) h k (mul-lt-mul_of_pos_right l (pow_pos 1074))
    ∙ round_same binary64 true (a * L - b * L) (L * L) (a - b) L (pow_pos 2148) (pow_pos 1074) (less_unit a b L)

only : (E D w : ℕ) → w ≤ 2 ^ 49 → Within E D w → E ≡ D
only E D w h k = omega arith

-- the difference of two sizes x and y, of p and q units of time
gap_near : (R : ℕ) (s : Bool) (x p y q : ℕ) → 0 < R → R < 2 ^ 18 → x < 2 ^ 95 * L → Multiple H x → Multiple H y → y ≤ x → q ≤ p
    → Off 17 x (p * step R) (p * step R) → Off 17 y (q * step R) (q * step R) → (E : ℕ) × (time R (round binary64 s (x - y) L) ≡ signed s E) × Within E (p - q) (p + q)
gap_near R s x p y q r r' small hx hy l k o o' =
    let N = step R in
    last R s (x - y) (p - q) (p + q) r r' (lt_of_le_of_lt (sub-le x y) small) (multiple_minus H x y hx hy) (less p q)
    (subst (λ (z : ℕ). Off 17 (x - y) ((p - q) * N) z) (sym (add-mul p q N)) (off_minus 17 x p (p * N) y q (q * N) N l k o o'))
  where
    less : (p q : ℕ) → p - q ≤ p + q
    less p q = omega arith

gap : (R : ℕ) (s : Bool) (x p y q : ℕ) → 0 < R → R < 2 ^ 18 → x < 2 ^ 95 * L → Multiple H x → Multiple H y → p + q ≤ 2 ^ 49 → y ≤ x
    → Off 17 x (p * step R) (p * step R) → Off 17 y (q * step R) (q * step R) → (q ≤ p) × (time R (round binary64 s (x - y) L) ≡ signed s (p - q))
gap R s x p y q r r' small hx hy w l o o' =
    let N = step R in
    let k : q ≤ p = off_order 17 x p (p * N) y q (q * N) N (lit≤ tt) (mul-pos r (pow_pos 1042)) (subst (λ (z : ℕ). z ≤ 2 ^ 49 * N) (add-mul p q N) (mul-le-mul_right N w)) l o o' in
    let e = gap_near R s x p y q r r' small hx hy l k o o' in
    (k, e.1 ∙ ap (λ (z : ℕ). signed s z) (only e.0 (p - q) (p + q) w e.2))

sub_up : (p q : ℕ) → q ≤ p → pos (p - q) ≡ sub_ℕ p q
sub_up p q h = go (ltb p q) (ltb→lt p q)
  where
    go : (b : Bool) → (T b → p < q) → pos (p - q) ≡ cond b (negsuc (q - suc p)) (pos (p - q))
    go true k = absurd (not-le_of_lt (k tt) h)
    go false k = refl

sub_down : (p q : ℕ) → p ≤ q → neg_ℤ (pos (q - p)) ≡ sub_ℕ p q
sub_down p q h = go (ltb p q) (ltb→lt p q) (nltb→le p q)
  where
    under : (p q : ℕ) → p < q → q - p ≡ suc (q - suc p)
    under p q k = omega arith

    level : (p q : ℕ) → p ≤ q → q ≤ p → q - p ≡ 0
    level p q h k = omega arith

    level' : (p q : ℕ) → p ≤ q → q ≤ p → 0 ≡ p - q
    level' p q h k = omega arith

    go : (b : Bool) → (T b → p < q) → (T (not b) → q ≤ p) → neg_ℤ (pos (q - p)) ≡ cond b (negsuc (q - suc p)) (pos (p - q))
    go true k l = ap (λ (z : ℕ). neg_ℤ (pos z)) (under p q (k tt))
    go false k l = ap (λ (z : ℕ). neg_ℤ (pos z)) (level p q h (l tt)) ∙ ap pos (level' p q h (l tt))

exact_neg : (R a b c : ℕ) → 0 < R → R < 2 ^ 18 → b < 2 ^ 53 → c < 2 ^ 53 → b * c + suc a ≤ 2 ^ 49 → loop_end R (negsuc a) (pos b) c ≡ sub_ℕ (b * c) (suc a)
unfolding loop_end
exact_neg R a b c r r' hb hc w = go (leb (frames_n R (suc a)) (prod_n R b c)) (leb→le (frames_n R (suc a)) (prod_n R b c)) (nleb→lt (frames_n R (suc a)) (prod_n R b c))
  where
    under : (a x : ℕ) → x + suc a ≤ 2 ^ 49 → suc a < 2 ^ 53
    under a x h = omega arith

    turn : (x y : ℕ) → x + y ≤ 2 ^ 49 → y + x ≤ 2 ^ 49
    turn x y h = omega arith

    go : (t : Bool) → (T t → frames_n R (suc a) ≤ prod_n R b c) → (T (not t) → prod_n R b c < frames_n R (suc a))
        → time R (add binary64 (frames_of R (negsuc a)) (mul binary64 (frames_of R (pos b)) (of_int binary64 (pos c)))) ≡ sub_ℕ (b * c) (suc a)
    go true h k =
        let small = lt_of_le_of_lt (prod_le R b c r' hb hc) (lit≤ tt) in
        let g =
        gap R false (prod_n R b c) (b * c) (frames_n R (suc a)) (suc a) r r' small (prod_multiple R b c) (frames_multiple R (suc a)) w (h tt) (prod_off R b c) (first_off R (suc a)) in
        ap (λ (z : Float). time R z)
        (up_units (frames_of R (negsuc a)) (mul binary64 (frames_of R (pos b)) (of_int binary64 (pos c))) (frames_n R (suc a)) (prod_n R b c)
        (S-value-neg R a (wide R r') (under a (b * c) w)) (prod_value R b c r' hb hc) (h tt))
        ∙ g.1 ∙ sub_up (b * c) (suc a) g.0
    go false h k =
        let small = lt_of_le_of_lt (frames_n_le R (suc a) r' (under a (b * c) w)) (lit≤ tt) in
        let g =
        gap R true (frames_n R (suc a)) (suc a) (prod_n R b c) (b * c) r r' small (frames_multiple R (suc a)) (prod_multiple R b c) (turn (b * c) (suc a) w) (le_of_lt (k tt))
        (first_off R (suc a)) (prod_off R b c) in
        ap (λ (z : Float). time R z)
        (down_units (frames_of R (negsuc a)) (mul binary64 (frames_of R (pos b)) (of_int binary64 (pos c))) (frames_n R (suc a)) (prod_n R b c)
        (S-value-neg R a (wide R r') (under a (b * c) w)) (prod_value R b c r' hb hc) (k tt))
        ∙ g.1 ∙ sub_down (b * c) (suc a) g.0

-- ---- E-exact
pub E-exact : (R : ℕ) (first : ℤ) (b c : ℕ) → 0 < R → R < 2 ^ 18 → b < 2 ^ 53 → c < 2 ^ 53 → b * c + nat_abs first ≤ 2 ^ 49 → loop_end R first (pos b) c ≡ first +ℤ pos (b * c)
E-exact R (pos a) b c r r' hb hc w =
    let e = E-near R a b c r r' (under a (b * c) w) hb hc in
    e.1 ∙ ap pos (only e.0 (a + b * c) (a + b * c) (turn (b * c) a w) e.2)
  where
    under : (a x : ℕ) → x + a ≤ 2 ^ 49 → a < 2 ^ 53
    under a x h = omega arith

    turn : (x y : ℕ) → x + y ≤ 2 ^ 49 → y + x ≤ 2 ^ 49
    turn x y h = omega arith
E-exact R (negsuc a) b c r r' hb hc w = exact_neg R a b c r r' hb hc w

-- ---- E-late: beyond 2 ^ 49 it is later than any position
far : (E p q : ℕ) → q ≤ 2 ^ 43 → 2 ^ 49 < p + q → Within E (p - q) (p + q) → 2 ^ 48 + 2 ^ 47 < E
far E p q h w k = omega arith

far_sum : (E D : ℕ) → 2 ^ 49 < D → Within E D D → 2 ^ 48 + 2 ^ 47 < E
far_sum E D w k = omega arith

late_neg : (R a b c : ℕ) → 0 < R → R < 2 ^ 18 → b < 2 ^ 53 → c < 2 ^ 53 → suc a ≤ 2 ^ 43 → 2 ^ 49 < b * c + suc a → (E : ℕ) × (loop_end R (negsuc a) (pos b) c ≡ pos E) × (2 ^ 48 + 2 ^ 47 < E)
unfolding loop_end
late_neg R a b c r r' hb hc h w =
    let x = prod_n R b c in
    let y = frames_n R (suc a) in
    let two = subst (λ (z : ℕ). z ≤ b * c * step R) (mul_assoc 2 (suc a) (step R)) (mul-le-mul_right (step R) (twice (b * c) (suc a) h w)) in
    let l : y ≤ x = off_far x (b * c * step R) y (suc a * step R) two (prod_off R b c) (first_off R (suc a)) in
    let small = lt_of_le_of_lt (prod_le R b c r' hb hc) (lit≤ tt) in
    let e = gap_near R false x (b * c) y (suc a) r r' small (prod_multiple R b c) (frames_multiple R (suc a)) l (once (b * c) (suc a) h w) (prod_off R b c) (first_off R (suc a)) in
    let u =
    up_units (frames_of R (negsuc a)) (mul binary64 (frames_of R (pos b)) (of_int binary64 (pos c))) y x (S-value-neg R a (wide R r') (lt_of_le_of_lt h (lit≤ tt))) (prod_value R b c r' hb hc) l in
    (e.0, ap (λ (z : Float). time R z) u ∙ e.1, far e.0 (b * c) (suc a) h w e.2)
  where
    twice : (p q : ℕ) → q ≤ 2 ^ 43 → 2 ^ 49 < p + q → 2 * q ≤ p
    twice p q h w = omega arith

    once : (p q : ℕ) → q ≤ 2 ^ 43 → 2 ^ 49 < p + q → q ≤ p
    once p q h w = omega arith

pub E-late : (R : ℕ) (first : ℤ) (b c : ℕ) → 0 < R → R < 2 ^ 18 → b < 2 ^ 53 → c < 2 ^ 53 → nat_abs first ≤ 2 ^ 43 → 2 ^ 49 < b * c + nat_abs first
    → (E : ℕ) × (loop_end R first (pos b) c ≡ pos E) × (2 ^ 48 + 2 ^ 47 < E)
E-late R (pos a) b c r r' hb hc h w =
    let e = E-near R a b c r r' (lt_of_le_of_lt h (lit≤ tt)) hb hc in
    (e.0, e.1, far_sum e.0 (a + b * c) (subst (λ (z : ℕ). 2 ^ 49 < z) (add_comm (b * c) a) w) e.2)
E-late R (negsuc a) b c r r' hb hc h w = late_neg R a b c r r' hb hc h w
