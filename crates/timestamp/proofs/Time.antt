-- T of a whole number of frames, up to 8 seconds, is one rounding of the exact fraction.
-- The idea: the quotient's own rounding is too small to do harm there. Assumes nothing.
use Rattle.std.proofs.Common.{◌≡◌, ℕ, zero, suc, ◌+◌, ◌-◌, ◌*◌, ◌^◌, ◌<◌, ◌≤◌, Bool, true, false, cond, ◌⊎◌, pos, sym, refl, ap, ◌∙◌, subst, ap₂, inl, inr, le_trans, le_of_eq, lt_of_lt_of_le, lt_of_le_of_lt, le_of_lt, mul-le-mul_right, zero-lt-suc, eq-zero-or-pos, mul-le-mul_left, mul-pos, mul-one, mul_right_comm, le_of_mul-le-mul_right, arith, lit≤, pow_pos, pow_mono, lt-ltb}
use mathlib.Core.Option.{none, some}
use lib.Ieee.{Float, nan, inf, fin, binary64, low, round, div, of_int}
use lib.Ieee.Exact.{HasValue}
use lib.Ieee.Nearest.{closest, closest_mono}
use lib.Ieee.Scale.{grid, overflow, finite}
use Rattle.timestamp.specs.Answer.{fits64, fitting, in_time}
use Rattle.timestamp.specs.Time.{signed, units_of, time, time_of}
use Rattle.laws.proofs.Near.{Near, closest_near, closest_beside}
use Rattle.laws.proofs.Round.{Normal, ulp, half_ulp, drop_le, grid_le, no_overflow, grid_exact, round_value}
use Rattle.laws.proofs.Error.{Rounded, relative_or_zero}
use Rattle.laws.proofs.Operations.{like_plus, div_at, round_small}
use Rattle.timestamp.proofs.Values.{units_of_at}

-- ---- the arithmetic, with L for 2 ^ low, K for the largest unit in the last place below 8, and g for the quotient
beside : (x R L K U g : ℕ) → L ≡ 2 ^ 50 * K → 0 < K → U ≤ K → R < 2 ^ 18 → 2 * (g * R) ≤ 2 * (x * L) + R * U → 2 * (x * L) ≤ 2 * (g * R) + R * U
    → (2 * (g * 2 ^ 32 * R) < 2 * (x * 2 ^ 32 * L) + L) × (2 * (x * 2 ^ 32 * L) < 2 * (g * 2 ^ 32 * R) + L)
beside x R L K U g e v u r lo hi =
    let a : R * U ≤ R * K = mul-le-mul_left R u in
    let b : suc R * K ≤ 2 ^ 18 * K = mul-le-mul_right K r in
    omega arith

-- half way: x / R is an odd multiple of 2 ^ -33
halfway : (x R v L W : ℕ) → 0 < R → L ≡ 2 ^ 33 * W → 2 * (x * 2 ^ 32) + R ≡ 2 * (v * R) → x * L ≡ (2 * v - 1) * W * R
halfway x R zero L W r e h = absurd (none R x r h)
  where
    none : (R x : ℕ) → 0 < R → 2 * (x * 2 ^ 32) + R ≡ 2 * (zero * R) → ⊥
    none R x r h = omega arith
halfway x R (suc v) L W r e h =
    let a : x * L ≡ x * (2 ^ 33 * W) = ap (λ (z : ℕ). x * z) e in
    let b : x * 2 ^ 33 ≡ (2 * v + 1) * R = odd v x R h in
    let c : x * 2 ^ 33 * W ≡ (2 * v + 1) * R * W = ap (λ (z : ℕ). z * W) b in
    a ∙ assoc x W ∙ c ∙ mul_right_comm (2 * v + 1) R W ∙ ap (λ (z : ℕ). z * W * R) (sym (less v))
  where
    odd : (v x R : ℕ) → 2 * (x * 2 ^ 32) + R ≡ 2 * (suc v * R) → x * 2 ^ 33 ≡ (2 * v + 1) * R
    odd v x R h = omega arith

    assoc : (x W : ℕ) → x * (2 ^ 33 * W) ≡ x * 2 ^ 33 * W
    assoc x W = omega arith

    less : (v : ℕ) → 2 * suc v - 1 ≡ 2 * v + 1
    less v = omega arith

-- ---- x / R as a float
pub whole_value : (n : ℕ) → n < 2 ^ 53 → HasValue (of_int binary64 (pos n)) false n 1
unfolding of_int
whole_value n h = round_small binary64 false n 0 h (lit≤ tt)

pub quotient : (R x : ℕ) → 0 < R → R < 2 ^ 53 → x < 2 ^ 53 → div binary64 (of_int binary64 (pos x)) (of_int binary64 (pos R)) ≡ round binary64 false x R
quotient R x r r' x' =
    div_at binary64 (of_int binary64 (pos x)) (of_int binary64 (pos R)) false false x 1 R 1 (zero-lt-suc 0) (zero-lt-suc 0) r (whole_value x x') (whole_value R r')
    ∙ ap₂ (λ (a b : ℕ). round binary64 false a b) (mul-one x) (mul-one R)

-- ---- T-once
small : (R x : ℕ) → R < 2 ^ 18 → x < 8 * R → (R < 2 ^ 53) × (x < 2 ^ 53)
small R x r h = omega arith

once : (R x : ℕ) → 0 < R → R < 2 ^ 18 → x < 8 * R → closest (grid binary64 x R * 2 ^ 32) (2 ^ low binary64) ≡ closest (x * 2 ^ 32) R
once R x r r' h =
    let d = drop_le binary64 x R 3 r h in
    let n = half_ulp binary64 x R r in
    let b = beside x R (2 ^ 1074) (2 ^ 1024) (ulp binary64 x R) (grid binary64 x R) refl (pow_pos 1024) (pow_mono d) r' n.0 n.1 in
    closest_beside (x * 2 ^ 32) R (grid binary64 x R * 2 ^ 32) (2 ^ low binary64) r (pow_pos 1074) b.0 b.1
    (λ v e. mul_right_comm (grid binary64 x R) (2 ^ 32) R
    ∙ ap (λ (z : ℕ). z * 2 ^ 32) (grid_exact binary64 x R (2 * v - 1) 1041 r (le_trans d (lit≤ tt)) (halfway x R v (2 ^ 1074) (2 ^ 1041) r refl e))
    ∙ mul_right_comm x (2 ^ 1074) (2 ^ 32))

pub T-once : (R x : ℕ) → 0 < R → R < 2 ^ 18 → x < 8 * R → time_of R x ≡ pos (closest (x * 2 ^ 32) R)
unfolding time_of time
T-once R x r r' h =
    let s = small R x r' h in
    ap units_of (quotient R x r s.0 s.1)
    ∙ units_of_at (round binary64 false x R) false (grid binary64 x R) (2 ^ low binary64) (pow_pos 1074) (round_value binary64 false x R (no_overflow binary64 x R 3 r (lit≤ tt) (lit≤ tt) h))
    ∙ ap pos (once R x r r' h)

-- ---- T-near: the number, within half a unit of x / R seconds
-- `Timed R x t`: T of x frames is t, and 2 * |t * R - x * 2 ^ 32| ≤ R
abbrev pub Timed : ℕ → ℕ → ℕ → Type 0
Timed R x t = (time_of R x ≡ pos t) × Near t (x * 2 ^ 32) R

pub T-near : (R x : ℕ) → 0 < R → R < 2 ^ 18 → x < 8 * R → Timed R x (closest (x * 2 ^ 32) R)
T-near R x r r' h = (T-once R x r r' h, closest_near (x * 2 ^ 32) R r)

-- ---- T of a float that is a / c, and T of any whole number of frames: in both a larger count has no smaller time
unfoldable pub time_n : ℕ → ℕ → ℕ → ℕ
time_n R a c = closest (grid binary64 a (R * c) * 2 ^ 32) (2 ^ low binary64)

pub time_value : (R : ℕ) (y : Float) (s : Bool) (a c : ℕ) → 0 < R → R < 2 ^ 53 → 0 < c → HasValue y s a c → grid binary64 a (R * c) < overflow binary64 → time R y ≡ signed s (time_n R a c)
unfolding time time_n
time_value R y s a c r r' C h o =
    ap units_of (div_at binary64 y (of_int binary64 (pos R)) s false a c R 1 C (zero-lt-suc 0) r h (whole_value R r') ∙ ap₂ (λ (t : Bool) (z : ℕ). round binary64 t z (R * c)) (like_plus s) (mul-one a))
    ∙ units_of_at (round binary64 s a (R * c)) s (grid binary64 a (R * c)) (2 ^ low binary64) (pow_pos 1074) (round_value binary64 s a (R * c) o)

-- whole frames below 2 ^ 53
pub T-value : (R x : ℕ) → 0 < R → R < 2 ^ 53 → x < 2 ^ 53 → time_of R x ≡ pos (time_n R x 1)
unfolding time_of
T-value R x r r' h = time_value R (of_int binary64 (pos x)) false x 1 r r' (zero-lt-suc 0) (whole_value x h) (no_overflow binary64 x (R * 1) 53 (mul-pos r (zero-lt-suc 0)) (lit≤ tt) (lit≤ tt) (lt_of_lt_of_le h (le_mul R r)))
  where
    le_mul : (R : ℕ) → 0 < R → 2 ^ 53 ≤ 2 ^ 53 * (R * 1)
    le_mul R r = omega arith

-- ---- T-wide: beyond 8 seconds T may be rounded twice, and is within half a unit and 2 ^ -53 of the time
-- 2 ^ 21 * |t * R - x * 2 ^ 32| ≤ 2 ^ 20 * R + x
abbrev pub Wide : ℕ → ℕ → ℕ → Type 0
Wide R x t = (2 ^ 21 * (t * R) ≤ 2 ^ 21 * (x * 2 ^ 32) + 2 ^ 20 * R + x) × (2 ^ 21 * (x * 2 ^ 32) ≤ 2 ^ 21 * (t * R) + 2 ^ 20 * R + x)

both : (t g x R l : ℕ) → 0 < l → Rounded (g * R) (x * l) → Near t (g * 2 ^ 32) l → Wide R x t
both t g x R l p r n =
    let a = mul-le-mul_right R n.0 in
    let b = mul-le-mul_right R n.1 in
    (le_of_mul-le-mul_right {k = l} (omega (arith, a)) p, le_of_mul-le-mul_right {k = l} (omega (arith, b)) p)

pub T-wide : (R x : ℕ) → 0 < R → R < 2 ^ 53 → x < 2 ^ 53 → (t : ℕ) × (time_of R x ≡ pos t) × Wide R x t
unfolding time_n
T-wide R x r r' h =
    let g = grid binary64 x (R * 1) in
    let t = closest (g * 2 ^ 32) (2 ^ 1074) in
    let o = relative_or_zero binary64 x (R * 1) (mul-pos r (zero-lt-suc 0)) (go (eq-zero-or-pos x)) in
    let n = closest_near (g * 2 ^ 32) (2 ^ 1074) (pow_pos 1074) in
    (t, T-value R x r r' h, both t g x R (2 ^ 1074) (pow_pos 1074) (subst (λ (z : ℕ). Rounded (g * z) (x * 2 ^ 1074)) (mul-one R) o) n)
  where
    go : (x ≡ 0) ⊎ (0 < x) → (x ≡ 0) ⊎ Normal binary64 x (R * 1)
    go (inl e) = inl e
    go (inr p) = inr (le_trans (mul-le-mul_left (2 ^ 52) (le_of_lt (subst (λ (z : ℕ). z < 2 ^ 53) (sym (mul-one R)) r'))) (le_trans (lit≤ tt) (mul-le-mul_right (2 ^ 1074) p)))

-- ---- up to 2 ^ 40 frames T fits 64 signed bits
value_finite : (x : Float) (s : Bool) (a c : ℕ) → HasValue x s a c → finite x ≡ true
value_finite nan s a c v = absurd v
value_finite (inf t) s a c v = absurd v
value_finite (fin t m e) s a c v = refl

T-short : (R x : ℕ) → 2 ^ 12 ≤ R → x ≤ 2 ^ 40 → time_n R x 1 < 2 ^ 63
unfolding time_n
T-short R x r h =
    let g = grid binary64 x (R * 1) in
    let few : g ≤ 2 ^ 29 * 2 ^ low binary64 = grid_le binary64 x (R * 1) 29 (positive R r) (lit≤ tt) (under R x r h) in
    lt_of_le_of_lt
    (closest_mono (g * 2 ^ 32) (2 ^ 1074) (2 ^ 61) 1 (pow_pos 1074) (zero-lt-suc 0)
    (le_trans (le_of_eq (mul-one (g * 2 ^ 32))) (le_trans (mul-le-mul_right (2 ^ 32) few) (lit≤ tt)))) (lit≤ tt)
  where
    positive : (R : ℕ) → 2 ^ 12 ≤ R → 0 < R * 1
    positive R r = omega arith

    under : (R x : ℕ) → 2 ^ 12 ≤ R → x ≤ 2 ^ 40 → x < 2 ^ 29 * (R * 1)
    under R x r h = omega arith

pub T-fits : (R x : ℕ) → 2 ^ 12 ≤ R → R < 2 ^ 18 → x ≤ 2 ^ 40 → in_time (div binary64 (of_int binary64 (pos x)) (of_int binary64 (pos R))) ≡ some (time_of R x)
unfolding time_of time
T-fits R x r r' h =
    let y = div binary64 (of_int binary64 (pos x)) (of_int binary64 (pos R)) in
    let p : 0 < R = above R r in
    let q : y ≡ round binary64 false x R = quotient R x p (lt_of_lt_of_le r' (lit≤ tt)) (lt_of_le_of_lt h (lit≤ tt)) in
    let v : HasValue (round binary64 false x R) false (grid binary64 x R) (2 ^ low binary64) = round_value binary64 false x R (no_overflow binary64 x R 29 p (lit≤ tt) (lit≤ tt) (under R x r h)) in
    ap (λ (b : Bool). cond b (fitting (units_of y)) none) (ap finite q ∙ value_finite (round binary64 false x R) false (grid binary64 x R) (2 ^ low binary64) v)
    ∙ ap (λ (b : Bool). cond b (some (units_of y)) none) (ap fits64 (T-value R x p (lt_of_lt_of_le r' (lit≤ tt)) (lt_of_le_of_lt h (lit≤ tt))) ∙ lt-ltb (time_n R x 1) (2 ^ 63) (T-short R x r h))
  where
    above : (R : ℕ) → 2 ^ 12 ≤ R → 0 < R
    above R r = omega arith

    under : (R x : ℕ) → 2 ^ 12 ≤ R → x ≤ 2 ^ 40 → x < 2 ^ 29 * R
    under R x r h = omega arith
