-- S: a time as frames. Below 2 ^ 53 units it is one rounding of t * R / 2 ^ 32, and none where t * R is below 2 ^ 53; then what S makes of T.
-- The idea: t is a float itself, and its product with R has one rounding. Assumes nothing.
use Rattle.std.proofs.Common.{◌≡◌, ℕ, suc, ◌+◌, ◌*◌, ◌/◌, ◌^◌, ◌<◌, ◌≤◌, Bool, true, false, T, ℤ, pos, negsuc, sym, refl, ap, ◌∙◌, subst, lt_of_lt_of_le, lt_of_le_of_lt, le_of_lt, mul-le-mul_right, zero-lt-suc, mul_assoc, mul-le-mul, lt_of_mul-lt-mul_right, mul-le-mul_left, arith, lit≤, pow_pos, pow_mono, w64, SFits}
use native.Mathlib.Nat.{div-eq_of_lt-le}
use lib.Ieee.{Float, binary64, low, round, mul, lt, of_int, fin}
use lib.Ieee.Exact.{HasValue}
use lib.Ieee.Nearest.{closest}
use lib.Ieee.Scale.{grid, overflow}
use Rattle.timestamp.specs.Time.{floor_of, round_of, time_of, seconds, frames_of}
use Rattle.laws.proofs.Near.{Near}
use Rattle.laws.proofs.Round.{Multiple, grid_le, grid_multiple, no_overflow, round_value}
use Rattle.laws.proofs.Operations.{like_plus, mul_at, round_small}
use Rattle.laws.proofs.Tests.{lt_of_value, lt_of_minus}
use Rattle.timestamp.proofs.Values.{floor_of_at, round_of_at}
use Rattle.laws.proofs.Error.{Rounded, Off, rounded_fraction, off_first}
use Rattle.timestamp.proofs.Time.{whole_value, T-near}

-- ---- one rounding
pub S-once : (R t : ℕ) → R < 2 ^ 53 → t < 2 ^ 53 → frames_of R (pos t) ≡ round binary64 false (t * R) (2 ^ 32)
unfolding frames_of seconds
S-once R t r h = mul_at binary64 (round binary64 false t (2 ^ 32)) (of_int binary64 (pos R)) false false t (2 ^ 32) R 1 (pow_pos 32) (zero-lt-suc 0) (round_small binary64 false t 32 h (lit≤ tt)) (whole_value R r)

pub S-once-neg : (R t : ℕ) → R < 2 ^ 53 → suc t < 2 ^ 53 → frames_of R (negsuc t) ≡ round binary64 true (suc t * R) (2 ^ 32)
unfolding frames_of seconds
S-once-neg R t r h = mul_at binary64 (round binary64 true (suc t) (2 ^ 32)) (of_int binary64 (pos R)) true false (suc t) (2 ^ 32) R 1 (pow_pos 32) (zero-lt-suc 0) (round_small binary64 true (suc t) 32 h (lit≤ tt)) (whole_value R r)

-- ---- S-exact: no rounding
pub S-exact : (R t : ℕ) → R < 2 ^ 53 → t < 2 ^ 53 → t * R < 2 ^ 53 → HasValue (frames_of R (pos t)) false (t * R) (2 ^ 32)
S-exact R t r h k = subst (λ (z : Float). HasValue z false (t * R) (2 ^ 32)) (sym (S-once R t r h)) (round_small binary64 false (t * R) 32 k (lit≤ tt))

pub S-floor : (R t : ℕ) → R < 2 ^ 53 → t < 2 ^ 53 → t * R < 2 ^ 53 → floor_of (frames_of R (pos t)) ≡ t * R / 2 ^ 32
S-floor R t r h k = floor_of_at (frames_of R (pos t)) (t * R) (2 ^ 32) (pow_pos 32) (S-exact R t r h k)

pub S-round : (R t : ℕ) → R < 2 ^ 53 → t < 2 ^ 53 → t * R < 2 ^ 53 → round_of (frames_of R (pos t)) ≡ (2 * (t * R) + 2 ^ 32) / 2 ^ 33
S-round R t r h k = round_of_at (frames_of R (pos t)) (t * R) (2 ^ 32) (pow_pos 32) (S-exact R t r h k)

-- ---- the value in units of the format's smallest, for any time below 2 ^ 53 units
unfoldable pub frames_n : ℕ → ℕ → ℕ
frames_n R t = grid binary64 (t * R) (2 ^ 32)

fine : (R t : ℕ) → R < 2 ^ 53 → t < 2 ^ 53 → grid binary64 (t * R) (2 ^ 32) < overflow binary64
fine R t r h = no_overflow binary64 (t * R) (2 ^ 32) 74 (pow_pos 32) (lit≤ tt) (lit≤ tt) (lt_of_le_of_lt (mul-le-mul_left t (below R r)) (wide t h))
  where
    below : (R : ℕ) → R < 2 ^ 53 → R ≤ 2 ^ 53
    below R r = omega arith

    wide : (t : ℕ) → t < 2 ^ 53 → t * 2 ^ 53 < 2 ^ 74 * 2 ^ 32
    wide t h = omega arith

pub S-value : (R t : ℕ) → R < 2 ^ 53 → t < 2 ^ 53 → HasValue (frames_of R (pos t)) false (frames_n R t) (2 ^ low binary64)
unfolding frames_n
S-value R t r h = subst (λ (z : Float). HasValue z false (grid binary64 (t * R) (2 ^ 32)) (2 ^ low binary64)) (sym (S-once R t r h)) (round_value binary64 false (t * R) (2 ^ 32) (fine R t r h))

pub S-value-neg : (R t : ℕ) → R < 2 ^ 53 → suc t < 2 ^ 53 → HasValue (frames_of R (negsuc t)) true (frames_n R (suc t)) (2 ^ low binary64)
unfolding frames_n
S-value-neg R t r h = subst (λ (z : Float). HasValue z true (grid binary64 (suc t * R) (2 ^ 32)) (2 ^ low binary64)) (sym (S-once-neg R t r h)) (round_value binary64 true (suc t * R) (2 ^ 32) (fine R (suc t) r h))

pub frames_n_le : (R t : ℕ) → R < 2 ^ 18 → t < 2 ^ 53 → frames_n R t ≤ 2 ^ 39 * 2 ^ low binary64
unfolding frames_n
frames_n_le R t r h = grid_le binary64 (t * R) (2 ^ 32) 39 (pow_pos 32) (lit≤ tt) (lt_of_le_of_lt (mul-le-mul_left t (below R r)) (wide t h))
  where
    below : (R : ℕ) → R < 2 ^ 18 → R ≤ 2 ^ 18
    below R r = omega arith

    wide : (t : ℕ) → t < 2 ^ 53 → t * 2 ^ 18 < 2 ^ 39 * 2 ^ 32
    wide t h = omega arith

-- one second, and one unit of time, in the format's smallest units; `step R` is a unit of time in frames
abbrev pub L : ℕ
L = 2 ^ 1074

abbrev pub H : ℕ
H = 2 ^ 1042

abbrev pub step : ℕ → ℕ
step R = R * H

-- ---- S-rounded: the value against t * R / 2 ^ 32
pub frames_rounded : (R t : ℕ) → Rounded (frames_n R t) (t * step R)
unfolding frames_n
frames_rounded R t = subst (λ (z : ℕ). Rounded (grid binary64 (t * R) (2 ^ 32)) z) (mul_assoc t R H) (rounded_fraction (t * R) 32 H (lit≤ tt) refl)

pub frames_multiple : (R t : ℕ) → Multiple H (frames_n R t)
unfolding frames_n
frames_multiple R t = grid_multiple binary64 (t * R) (2 ^ 32) (t * R) 1042 (pow_pos 32) (sym (mul_assoc (t * R) H (2 ^ 32)))

pub frames_off : (R t : ℕ) → Off 8 (frames_n R t) (t * step R) (t * step R)
frames_off R t = off_first (frames_n R t) (t * step R) (frames_rounded R t)

-- ---- back again: the nearest frame to T of x is x
pub near_frame : (R x t : ℕ) → R < 2 ^ 18 → Near t (x * 2 ^ 32) R → (2 * (t * R) + 2 ^ 32) / 2 ^ 33 ≡ x
near_frame R x t r n = omega arith

pub short : (R x t : ℕ) → R < 2 ^ 18 → x < 8 * R → Near t (x * 2 ^ 32) R → (t < 2 ^ 35) × (t * R < 2 ^ 53)
short R x t r h n = (lt_of_mul-lt-mul_right R (omega arith), omega arith)

pub S-T : (R x : ℕ) → 0 < R → R < 2 ^ 18 → x < 8 * R → round_of (frames_of R (time_of R x)) ≡ x
S-T R x r r' h =
    let t = closest (x * 2 ^ 32) R in
    let n = T-near R x r r' h in
    let s = short R x t r' h n.1 in
    ap (λ (z : ℤ). round_of (frames_of R z)) n.0 ∙ S-round R t (small R r') (smaller t s.0) s.1 ∙ near_frame R x t r' n.1
  where
    small : (R : ℕ) → R < 2 ^ 18 → R < 2 ^ 53
    small R r = omega arith

    smaller : (t : ℕ) → t < 2 ^ 35 → t < 2 ^ 53
    smaller t h = omega arith

-- ---- S-near: a time within half a unit of x frames has x for its nearest frame, however large it is
eighth : (g y n : ℕ) → y ≤ 2 ^ 50 * n → Rounded g y → (8 * g ≤ 8 * y + n) × (8 * y ≤ 8 * g + n)
eighth g y n h o = omega arith

beside : (R x t h g : ℕ) → 0 < h → R < 2 ^ 18 → Near t (x * 2 ^ 32) R → 8 * g ≤ 8 * (t * (R * h)) + R * h → 8 * (t * (R * h)) ≤ 8 * g + R * h
    → (2 * (x * (2 ^ 32 * h)) ≤ 2 * g + 2 ^ 32 * h) × (2 * g < 2 * (x * (2 ^ 32 * h)) + 2 ^ 32 * h)
beside R x t h g p r n lo hi =
    let a = mul-le-mul_right h n.0 in
    let b = mul-le-mul_right h n.1 in
    let d : suc R * h ≤ 2 ^ 18 * h = mul-le-mul_right h r in
    omega (arith, a, b)

nearest_is : (x g l : ℕ) → 2 * (x * l) ≤ 2 * g + l → 2 * g < 2 * (x * l) + l → (2 * g + l) / (2 * l) ≡ x
nearest_is x g l lo hi = div-eq_of_lt-le (2 * l) (omega arith) (omega arith)

pub S-near : (R x t : ℕ) → R < 2 ^ 18 → t < 2 ^ 50 → Near t (x * 2 ^ 32) R → round_of (frames_of R (pos t)) ≡ x
S-near R x t r s n =
    let e = eighth (frames_n R t) (t * step R) (step R) (mul-le-mul_right (step R) (le_of_lt s)) (frames_rounded R t) in
    let g = beside R x t H (frames_n R t) (pow_pos 1042) r n e.0 e.1 in
    round_of_at (frames_of R (pos t)) (frames_n R t) L (pow_pos 1074) (S-value R t (lt_of_lt_of_le r (lit≤ tt)) (lt_of_lt_of_le s (lit≤ tt))) ∙ nearest_is x (frames_n R t) L g.0 g.1

-- ---- S of any i64 is below 2 ^ 52 frames
module _ (R : ℕ) (s : Bool) (n : ℕ) (r : R < 2 ^ 18) (h : n ≤ 2 ^ 63) where
  in_seconds : HasValue (round binary64 s n (2 ^ 32)) s (grid binary64 n (2 ^ 32)) L
  in_seconds = round_value binary64 s n (2 ^ 32) (no_overflow binary64 n (2 ^ 32) 32 (pow_pos 32) (lit≤ tt) (lit≤ tt) (lt_of_le_of_lt h (lit≤ tt)))

  few : grid binary64 n (2 ^ 32) * R < 2 ^ 51 * (L * 1)
  few = lt_of_le_of_lt (mul-le-mul (grid_le binary64 n (2 ^ 32) 32 (pow_pos 32) (lit≤ tt) (lt_of_le_of_lt h (lit≤ tt))) (le_of_lt r)) (lit≤ tt)

  product : mul binary64 (round binary64 s n (2 ^ 32)) (of_int binary64 (pos R)) ≡ round binary64 s (grid binary64 n (2 ^ 32) * R) (L * 1)
  product =
      mul_at binary64 (round binary64 s n (2 ^ 32)) (of_int binary64 (pos R)) s false (grid binary64 n (2 ^ 32)) L R 1 (pow_pos 1074) (zero-lt-suc 0) in_seconds (whole_value R (lt_of_lt_of_le r (lit≤ tt)))
      ∙ ap (λ (b : Bool). round binary64 b (grid binary64 n (2 ^ 32) * R) (L * 1)) (like_plus s)

  pub in_frames_lem : HasValue (mul binary64 (round binary64 s n (2 ^ 32)) (of_int binary64 (pos R))) s (grid binary64 (grid binary64 n (2 ^ 32) * R) (L * 1)) L
  in_frames_lem = subst (λ (x : Float). HasValue x s (grid binary64 (grid binary64 n (2 ^ 32) * R) (L * 1)) L) (sym product)
      (round_value binary64 s (grid binary64 n (2 ^ 32) * R) (L * 1) (no_overflow binary64 (grid binary64 n (2 ^ 32) * R) (L * 1) 51 (pow_pos 1074) (lit≤ tt) (lit≤ tt) few))

  frames_few : (w : ℕ) → 52 ≤ w → grid binary64 (grid binary64 n (2 ^ 32) * R) (L * 1) < 2 ^ w * L
  frames_few w k = lt_of_le_of_lt (grid_le binary64 (grid binary64 n (2 ^ 32) * R) (L * 1) 51 (pow_pos 1074) (lit≤ tt) few) (lt_of_lt_of_le (lit≤ tt) (mul-le-mul_right L (pow_mono k)))

pub S-below : (R : ℕ) (t : ℤ) (w : ℕ) → R < 2 ^ 18 → SFits w64 t → 52 ≤ w → T (lt (frames_of R t) (fin false 1 (pos w)))
unfolding frames_of seconds
S-below R (pos n) w r F k =
    lt_of_value (mul binary64 (round binary64 false n (2 ^ 32)) (of_int binary64 (pos R))) (grid binary64 (grid binary64 n (2 ^ 32) * R) (L * 1)) L w (pow_pos 1074)
    (in_frames_lem R false n r (le_of_lt F.sfits)) (frames_few R false n r (le_of_lt F.sfits) w k)
S-below R (negsuc n) w r F k =
    lt_of_minus (mul binary64 (round binary64 true (suc n) (2 ^ 32)) (of_int binary64 (pos R))) (grid binary64 (grid binary64 (suc n) (2 ^ 32) * R) (L * 1)) L w (in_frames_lem R true (suc n) r F.sfits)
