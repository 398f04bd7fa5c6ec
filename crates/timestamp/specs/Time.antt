-- "Timestamps" of document 01. A time is a whole number of units of 2 ^ -32 seconds, an ℤ; a float is IEEE 754's (`lib.Ieee`); R is a rate. T is `time` and `time_of`,
-- S is `frames_of`. `closest a b` of `lib.Ieee.Nearest` is a / b rounded to the nearest whole number, a tie to the even one. Definitions only.
use Rattle.std.specs.Prelude.{ℕ, suc, ◌+◌, ◌*◌, ◌/◌, ◌^◌, Bool, true, false, cond, ℤ, pos, negsuc, neg_ℤ, int_lt}
use lib.Ieee.{Float, nan, inf, fin, binary64, up, down, round, mul, div, add, of_int}
use Rattle.std.specs.Float.Ieee.Nearest.{closest}

-- a size with a sign
abbrev pub signed : Bool → ℕ → ℤ
signed false n = pos n
signed true n = neg_ℤ (pos n)

-- ---- T

-- "nearest multiple of 2^-32, ties to even": seconds in units, the `fixed` crate's rule. What is not finite has none, and 0 stands there
abbrev pub units_of : Float → ℤ
units_of nan = pos 0
units_of (inf s) = pos 0
units_of (fin s m e) = signed s (closest (m * up e * 2 ^ 32) (down e))

-- "T(x) at rate R: x/R in f64, one rounding, then nearest multiple of 2^-32"
unfoldable pub time : ℕ → Float → ℤ
time R x = units_of (div binary64 x (of_int binary64 (pos R)))

-- T of a whole number of frames
unfoldable pub time_of : ℕ → ℕ → ℤ
unfolding time
time_of R n = time R (of_int binary64 (pos n))

-- ---- S

-- "t to f64": the nearest binary64 to t / 2 ^ 32 seconds, a tie to the even one
unfoldable pub seconds : ℤ → Float
seconds (pos n) = round binary64 false n (2 ^ 32)
seconds (negsuc n) = round binary64 true (suc n) (2 ^ 32)

-- "S(t): t to f64, times R, rounded once"
unfoldable pub frames_of : ℕ → ℤ → Float
unfolding seconds
frames_of R t = mul binary64 (seconds t) (of_int binary64 (pos R))

-- the floor of a number of frames; "a negative count of frames becomes 0". What is not finite has none, and 0 stands there
abbrev pub floor_of : Float → ℕ
floor_of nan = 0
floor_of (inf s) = 0
floor_of (fin true m e) = 0
floor_of (fin false m e) = m * up e / down e

-- "Round is half away from zero; a negative count of frames becomes 0"
abbrev pub round_of : Float → ℕ
round_of nan = 0
round_of (inf s) = 0
round_of (fin true m e) = 0
round_of (fin false m e) = (2 * (m * up e) + down e) / (2 * down e)

-- "the floor of S", and "round S"
abbrev pub frame_at : ℕ → ℤ → ℕ
frame_at R t = floor_of (frames_of R t)

abbrev pub frame_near : ℕ → ℤ → ℕ
frame_near R t = round_of (frames_of R t)

-- ---- more

-- the later and the earlier of two times
abbrev pub later : ℤ → ℤ → ℤ
later a b = cond (int_lt a b) b a

abbrev pub earlier : ℤ → ℤ → ℤ
earlier a b = cond (int_lt a b) a b

-- "T(S(end−start position) + S(end−loop start)·completed), each f64 step rounded": E with a loop, `first` being end − start position and `length` end − loop start
unfoldable pub loop_end : ℕ → ℤ → ℤ → ℕ → ℤ
unfolding time frames_of
loop_end R first length completed = time R (add binary64 (frames_of R first) (mul binary64 (frames_of R length) (of_int binary64 (pos completed))))

-- "The fade length is the ceiling of R/20": the least n with R at most 20·n (proofs/Fade)
abbrev pub fade_length : ℕ → ℕ
fade_length R = (R + 19) / 20

-- the beats in a second, of a tempo in beats a minute: the first of `timestamp.rs`'s two steps
unfoldable pub frequency : Float → Float
frequency tempo = div binary64 tempo (of_int binary64 (pos 60))
