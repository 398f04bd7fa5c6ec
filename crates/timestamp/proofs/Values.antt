-- What a float is as a time, or as a whole number of frames, by any fraction a / c that it equals.
-- The idea: `closest` and the quotient depend on the value alone (`closest_same`, `div_same`). Assumes nothing.
use Rattle.std.proofs.Common.{◌≡◌, ℕ, ◌+◌, ◌*◌, ◌/◌, ◌^◌, ◌<◌, Bool, true, false, sym, refl, ap, ◌∙◌, ap₂, true≢false, mul_right_comm, pos, arith}
use lib.Ieee.{Float, nan, inf, fin, binary64, up, down, of_bits}
use lib.Ieee.Fits.{down_pos}
use lib.Ieee.Exact.{HasValue}
use lib.Ieee.Nearest.{closest, closest_same, div_same}
use Rattle.timestamp.specs.Time.{signed, units_of, floor_of, round_of}

pub units_of_at : (x : Float) (s : Bool) (a c : ℕ) → 0 < c → HasValue x s a c → units_of x ≡ signed s (closest (a * 2 ^ 32) c)
units_of_at nan s a c C h = absurd h
units_of_at (inf s') s a c C h = absurd h
units_of_at (fin s' m e) s a c C h =
    ap₂ signed h.0
    (closest_same (m * up e * 2 ^ 32) (down e) (a * 2 ^ 32) c (down_pos e) C (mul_right_comm (m * up e) (2 ^ 32) c ∙ ap (λ (z : ℕ). z * 2 ^ 32) h.1 ∙ mul_right_comm a (down e) (2 ^ 32)))

pub floor_of_at : (x : Float) (a c : ℕ) → 0 < c → HasValue x false a c → floor_of x ≡ a / c
floor_of_at nan a c C h = absurd h
floor_of_at (inf s') a c C h = absurd h
floor_of_at (fin true m e) a c C h = absurd (true≢false h.0)
floor_of_at (fin false m e) a c C h = div_same (m * up e) (down e) a c (down_pos e) C h.1

twice_pos : (c : ℕ) → 0 < c → 0 < 2 * c
twice_pos c h = omega arith

halves : (x e a c : ℕ) → x * c ≡ a * e → (2 * x + e) * (2 * c) ≡ (2 * a + c) * (2 * e)
halves x e a c h = omega arith

pub round_of_at : (x : Float) (a c : ℕ) → 0 < c → HasValue x false a c → round_of x ≡ (2 * a + c) / (2 * c)
round_of_at nan a c C h = absurd h
round_of_at (inf s') a c C h = absurd h
round_of_at (fin true m e) a c C h = absurd (true≢false h.0)
round_of_at (fin false m e) a c C h = div_same (2 * (m * up e) + down e) (2 * down e) (2 * a + c) (2 * c) (twice_pos (down e) (down_pos e)) (twice_pos c C) (halves (m * up e) (down e) a c h.1)

-- what is negative is 0
pub floor_of_neg : (x : Float) (a c : ℕ) → HasValue x true a c → floor_of x ≡ 0
floor_of_neg nan a c h = absurd h
floor_of_neg (inf s') a c h = absurd h
floor_of_neg (fin true m e) a c h = refl
floor_of_neg (fin false m e) a c h = absurd (true≢false (sym h.0))

pub round_of_neg : (x : Float) (a c : ℕ) → HasValue x true a c → round_of x ≡ 0
round_of_neg nan a c h = absurd h
round_of_neg (inf s') a c h = absurd h
round_of_neg (fin true m e) a c h = refl
round_of_neg (fin false m e) a c h = absurd (true≢false (sym h.0))

-- the float that a second's units are divided by
pub two_to_32 : of_bits binary64 0x41f0_0000_0000_0000 ≡ fin false 1 (pos 32)
unfolding of_bits
two_to_32 = refl
