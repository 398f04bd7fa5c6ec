-- Numbers of frames cut and rounded, as the code does it: a cast, and the cast of twice the number halved upwards.
-- The idea: below 2 ^ 64 the cast is the quotient, and below 2 ^ 52 twice a number is exact. Assumes nothing.
use Rattle.std.proofs.Common.{◌≡◌, ℕ, zero, suc, ◌+◌, ◌*◌, ◌/◌, ◌%◌, ◌^◌, ◌<◌, min, Bool, true, false, cond, not, T, ltb, ℤ, pos, sym, refl, ap, ◌∙◌, subst, lt_of_lt_of_le, le_of_lt, mul_comm, div-lt_iff_lt-mul, mul-lt-mul_of_pos_right, mul-one, arith, lit<, ltb→lt, lt→ltb, T_not}
use native.Mathlib.Nat.{add-div_right, div-div-eq-div-mul}
use lib.Ieee.{Float, nan, inf, fin, Format, binary64, prec, emax, low, up, down, odd, units, round, mul, lt, to_unsigned, fits}
use lib.Ieee.Fits.{down_pos, round_is}
use lib.Ieee.Exact.{HasValue}
use Rattle.laws.proofs.Fit.{scaled_val}
use Rattle.laws.proofs.Tests.{lt_of_value, lt_of_sign}
use Rattle.timestamp.specs.Time.{floor_of, round_of}
use Rattle.timestamp.proofs.Values.{floor_of_at}

-- ---- cut

some : (d n : ℕ) → 0 < d → 0 < 1 * d + n * 1
some d n h = omega arith

pub cut_low : (x : Float) → T (not (lt (fin true 1 (pos 0)) x)) → 0 ≡ floor_of x
unfolding lt
cut_low nan h = refl
cut_low (inf s) h = refl
cut_low (fin true m e) h = refl
cut_low (fin false m e) h = absurd (T_not (ltb 0 (1 * down e + m * up e * 1)) h (lt→ltb 0 (1 * down e + m * up e * 1) (some (down e) (m * up e) (down_pos e))))

pub cut_cast : (x : Float) → T (lt x (fin false 1 (pos 64))) → to_unsigned 64 x ≡ floor_of x
unfolding lt to_unsigned
cut_cast nan h = refl
cut_cast (inf true) h = refl
cut_cast (inf false) h = absurd h
cut_cast (fin true m e) h = refl
cut_cast (fin false m e) h = go (m * up e / down e) ((div-lt_iff_lt-mul (down_pos e)).1 (tidy (m * up e) (down e) (ltb→lt (m * up e * 1) (1 * 2 ^ 64 * down e) h)))
  where
    tidy : (n d : ℕ) → n * 1 < 1 * 2 ^ 64 * d → n < 2 ^ 64 * d
    tidy n d h = omega arith

    go : (q : ℕ) → q < 18446744073709551616 → min q 18446744073709551615 ≡ q
    go q h = omega arith

-- ---- rounded, a half away from zero

-- what is rounded with a minus sign is below every power of two, and has no whole part
abbrev Under : Float → Type 0
Under x = T (lt x (fin false 1 (pos 64))) × (floor_of x ≡ 0)

odd_under : (d q k l : ℕ) → Under (odd d true q k l)
unfolding odd
odd_under d zero k l = (lt_of_sign _ _ 64, refl)
odd_under d (suc q) k l = (lt_of_sign _ _ 64, refl)

units_under : (f : Format) (q k : ℕ) → Under (units f true q k)
unfolding units
units_under f q k = go (ltb (q * 2 ^ k) (2 ^ (low f + suc (emax f))))
  where
    go : (b : Bool) → Under (cond b (odd (suc (prec f)) true q k (low f)) (inf true))
    go true = odd_under (suc (prec f)) q k (low f)
    go false = unfold lt in (tt, refl)

minus_under : (f : Format) (a c : ℕ) → Under (round f true a c)
minus_under f a c = subst Under (sym (round_is f true a c)) (units_under f _ _)

-- floor (2 n / d), halved upwards, is floor ((2 n + d) / 2 d)
abbrev halve : ℕ → ℕ
halve u = u / 2 + u % 2

halved : (n d : ℕ) → 0 < d → halve (n * 2 / d) ≡ (2 * n + d) / (2 * d)
halved n d D =
    go (n * 2 / d) ∙ ap (λ (k : ℕ). k / 2) (sym (add-div_right (n * 2) D)) ∙ div-div-eq-div-mul (n * 2 + d) d 2
    ∙ ap (λ (k : ℕ). (k + d) / (d * 2)) (mul_comm n 2) ∙ ap (λ (k : ℕ). (2 * n + d) / k) (mul_comm d 2)
  where
    go : (u : ℕ) → u / 2 + u % 2 ≡ (u + 1) / 2
    go u = omega arith

mul_pos_is : (m : ℕ) (e : ℤ) → mul binary64 (fin false m e) (fin false 1 (pos 1)) ≡ round binary64 false (m * up e * 2) (down e)
unfolding mul
mul_pos_is m e = ap (λ (d : ℕ). round binary64 false (m * up e * 2) d) (mul-one (down e))

mul_neg_is : (m : ℕ) (e : ℤ) → mul binary64 (fin true m e) (fin false 1 (pos 1)) ≡ round binary64 true (m * up e * 2) (down e * 1)
unfolding mul
mul_neg_is m e = refl

abbrev Twice : Float → Float → Type 0
Twice x y = T (lt y (fin false 1 (pos 64))) × (halve (floor_of y) ≡ round_of x)

pub twice : (x : Float) → T (fits binary64 x) → T (lt x (fin false 1 (pos 52))) → Twice x (mul binary64 x (fin false 1 (pos 1)))
unfolding lt
twice nan F h = absurd h
twice (inf true) F h = unfold mul in (tt, refl)
twice (inf false) F h = absurd h
twice (fin true m e) F h =
    let u = minus_under binary64 (m * up e * 2) (down e * 1) in
    subst (Twice (fin true m e)) (sym (mul_neg_is m e)) (u.0, ap halve u.1)
twice (fin false m e) F h =
    let n = m * up e in
    let d = down e in
    let D = down_pos e in
    let l : n < 2 ^ 52 * d = tidy n d (ltb→lt (n * 1) (1 * 2 ^ 52 * d) h) in
    let v : HasValue (round binary64 false (n * 2) d) false (n * 2) d = scaled_val binary64 false m e 1 F (lt_of_lt_of_le (double n d l) (le_of_lt (mul-lt-mul_of_pos_right (lit< {m = 2 ^ 53} {n = 2 ^ 1024} tt) D))) in
    subst (Twice (fin false m e)) (sym (mul_pos_is m e)) (
      lt_of_value (round binary64 false (n * 2) d) (n * 2) d 64 D v (lt_of_lt_of_le (double n d l) (le_of_lt (mul-lt-mul_of_pos_right (lit< {m = 2 ^ 53} {n = 2 ^ 64} tt) D))),
      ap halve (floor_of_at (round binary64 false (n * 2) d) (n * 2) d D v) ∙ halved n d D,
    )
  where
    tidy : (n d : ℕ) → n * 1 < 4503599627370496 * d → n < 4503599627370496 * d
    tidy n d h = omega arith

    double : (n d : ℕ) → n < 4503599627370496 * d → n * 2 < 9007199254740992 * d
    double n d h = omega arith
