-- What each call of `timestamp` answers: a number of document 01 and a value. 0 is no refusal; the order is "Timestamps: 1, 15"; a refusal returns "zeros". `told` and `told_float` have the number and the value of each case of what the code answers. Definitions only.
use Rattle.std.specs.Prelude.{ℕ, ◌^◌, Bool, true, false, cond, ◌&&◌, ℤ, pos, ◌+ℤ◌, ◌-ℤ◌, ◌==◌, int_lt, nat_le, nat_lt, Float, ◌≡◌, Result, Ok, Err}
use Rattle.std.proofs.Math.Option.{Option, none, some}
use Rattle.std.specs.Int.Signed.{mag}
use Rattle.std.specs.Float.{fin, binary64}
use Rattle.std.specs.Float.Ieee.{mul, div, of_int}
use Rattle.std.specs.Float.Ieee.Scale.{finite}
use Rattle.std.specs.Float.Ieee.Positive.{positive}
use Rattle.std.specs.declared.cmp.Ordering.{Ordering}
use Rattle.std.specs.declared.cmp.Ordering.TheVariants.{Less, Equal, Greater}
use Rattle.laws.specs.declared.Refusal.{Refusal}
use Rattle.laws.specs.declared.Refusal.TheVariants.{Rate as ARate}
use Rattle.laws.specs.Rules.{number_of}
use Rattle.timestamp.specs.declared.Timestamp.{Timestamp}
use Rattle.timestamp.specs.declared.rate.Rate.{Rate}
use Rattle.timestamp.specs.Time.{units_of, seconds, frames_of, frequency}

-- ---- the shape of an answer

-- a number and a time; a number and a count of samples or beats
pub record TimeAnswer : Type 0 where
  pub number : ℕ
  pub time : Timestamp

pub record FloatAnswer : Type 0 where
  pub number : ℕ
  pub value : Float

abbrev pub taken : ℤ → TimeAnswer
taken z = record { number = 0; time = record { bits = z } }

abbrev pub refused : ℕ → TimeAnswer
refused n = record { number = n; time = record { bits = pos 0 } }

abbrev pub counted : Float → FloatAnswer
counted x = record { number = 0; value = x }

abbrev pub uncounted : ℕ → FloatAnswer
uncounted n = record { number = n; value = fin false 0 (pos 0) }

abbrev pub told : Result Timestamp Refusal → TimeAnswer
told (Ok t) = record { number = 0; time = t }
told (Err r) = refused (number_of r)

abbrev pub told_float : Result Float Refusal → FloatAnswer
told_float (Ok x) = counted x
told_float (Err r) = uncounted (number_of r)

-- ---- the two rules

-- 1: "rate out of range", which is "8,000 to 96,000"
abbrev pub in_rate : ℕ → Bool
in_rate R = nat_le 8000 R && nat_le R 96000

abbrev pub RateOf : ℕ → Result Rate Refusal → Type 0
RateOf R (Ok r) = (in_rate R ≡ true) × (r.hertz ≡ R)
RateOf R (Err e) = (in_rate R ≡ false) × (e ≡ ARate)

-- 15: "a result .. that doesn't fit 64 signed bits": -2 ^ 63 to 2 ^ 63 - 1 do, and `mag z` is z from 0 on, and -(z + 1) below
abbrev pub fits64 : ℤ → Bool
fits64 z = nat_lt (mag z) (2 ^ 63)

abbrev pub fitting : ℤ → Option ℤ
fitting z = cond (fits64 z) (some z) none

-- seconds as a time, where they are finite and the time fits
abbrev pub in_time : Float → Option ℤ
in_time y = cond (finite y) (fitting (units_of y)) none

abbrev pub made : Option ℤ → TimeAnswer
made none = refused 15
made (some z) = taken z

-- ---- the calls, in the order of `timestamp.rs`

abbrev pub order : ℤ → ℤ → Ordering
order a b = cond (int_lt a b) Less (cond (int_lt b a) Greater Equal)

abbrev pub minus : ℤ → ℤ → TimeAnswer
minus a b = made (fitting (a -ℤ b))

abbrev pub plus : ℤ → ℤ → TimeAnswer
plus a b = made (fitting (a +ℤ b))

unfoldable pub from_seconds : Float → TimeAnswer
from_seconds y = made (in_time y)

unfoldable pub from_samples : Float → ℕ → TimeAnswer
unfolding from_seconds
from_samples x R = cond (in_rate R) (from_seconds (div binary64 x (of_int binary64 (pos R)))) (refused 1)

-- "tempo not above zero" is 15, and so is one that is not finite
unfoldable pub from_beats : Float → Float → TimeAnswer
unfolding from_seconds frequency
from_beats beats tempo = cond (positive tempo) (from_seconds (div binary64 beats (frequency tempo))) (refused 15)

unfoldable pub as_samples : ℤ → ℕ → FloatAnswer
unfolding frames_of
as_samples t R = cond (in_rate R) (counted (frames_of R t)) (uncounted 1)

-- "or, as a float, isn't finite"
unfoldable pub as_beats : ℤ → Float → FloatAnswer
unfolding seconds frequency
as_beats t tempo =
    let beats = mul binary64 (seconds t) (frequency tempo) in
    cond (positive tempo) (cond (finite beats) (counted beats) (uncounted 15)) (uncounted 15)

-- "(a step's included)": a time moved by an answered one; a step's refusal is the answer
abbrev pub moved_by : ℤ → TimeAnswer → TimeAnswer
moved_by t a = cond (a.number == 0) (plus t a.time.bits) a

unfoldable pub incremented_by_samples : ℤ → ℕ → ℕ → TimeAnswer
unfolding from_samples
incremented_by_samples t n R = moved_by t (from_samples (of_int binary64 (pos n)) R)

unfoldable pub incremented_by_seconds : ℤ → Float → TimeAnswer
unfolding from_seconds
incremented_by_seconds t y = moved_by t (from_seconds y)

unfoldable pub incremented_by_beats : ℤ → Float → Float → TimeAnswer
unfolding from_beats
incremented_by_beats t beats tempo = moved_by t (from_beats beats tempo)
