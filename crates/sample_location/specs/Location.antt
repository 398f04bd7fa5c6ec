-- What each call of `sample_location` answers: a value, or a number of document 01 and a value. 0 is no refusal; "Locations: 15". Definitions only.
use Rattle.std.specs.Prelude.{ℕ, ◌+◌, ◌^◌, Bool, cond, nat_lt, Result, Ok, Err}
use Rattle.sample_location.specs.declared.SampleLocation.{SampleLocation}
use Rattle.sample_location.specs.declared.SampleRange.{SampleRange}
use Rattle.sample_location.specs.declared.Range.{Range}
use Rattle.laws.specs.declared.Refusal.{Refusal}
use Rattle.laws.specs.Rules.{number_of}

-- ---- values, and the shape of an answer

-- a channel and a frame of it
abbrev pub place : ℕ → ℕ → SampleLocation
place c f = record { channel = c; frame = f }

-- the first channel and the first frame, and how many of each
abbrev pub rectangle : ℕ → ℕ → ℕ → ℕ → SampleRange
rectangle c f cs fs = record { channel = c; frame = f; channel_count = cs; frame_count = fs }

-- a number and a place; a number and a range
pub record LocationAnswer : Type 0 where
  pub number : ℕ
  pub location : SampleLocation

pub record RangeAnswer : Type 0 where
  pub number : ℕ
  pub range : Range

-- a place, and no refusal
abbrev pub located : SampleLocation → LocationAnswer
located l = record { number = 0; location = l }

-- "location or range: zeros"
abbrev pub unlocated : ℕ → LocationAnswer
unlocated n = record { number = n; location = place 0 0 }

-- a range, and no refusal
abbrev pub ranged : ℕ → ℕ → RangeAnswer
ranged a e = record { number = 0; range = record { start = a; end = e } }

-- "location or range: zeros"
abbrev pub unranged : ℕ → RangeAnswer
unranged n = record { number = n; range = record { start = 0; end = 0 } }

-- the number and the value of each case of what the code answers
abbrev pub told : Result SampleLocation Refusal → LocationAnswer
told (Ok l) = located l
told (Err r) = unlocated (number_of r)

abbrev pub told_range : Result Range Refusal → RangeAnswer
told_range (Ok a) = record { number = 0; range = a }
told_range (Err r) = unranged (number_of r)

-- ---- the rule, and the calls that have a sum

-- "a location or range sum past 64 bits": 2 ^ 64 is the first that is
abbrev pub fits : ℕ → Bool
fits n = nat_lt n (2 ^ 64)

-- n frames on, the channel kept
abbrev pub moved_frames : SampleLocation → ℕ → LocationAnswer
moved_frames l n = cond (fits (l.frame + n)) (located (place l.channel (l.frame + n))) (unlocated 15)

-- n channels on, the frame kept
abbrev pub moved_channels : SampleLocation → ℕ → LocationAnswer
moved_channels l n = cond (fits (l.channel + n)) (located (place (l.channel + n) l.frame)) (unlocated 15)

-- n from a on, so up to the sum
abbrev pub range_from : ℕ → ℕ → RangeAnswer
range_from a n = cond (fits (a + n)) (ranged a (a + n)) (unranged 15)
