-- One frame's sound: "The two channel values of a frame are fetched, scaled and added as one pair." "product and sum each rounded to f32". Definitions only.
use Rattle.std.specs.Prelude.{ℕ, ◌+◌, ◌*◌, min, Bool, ◌&&◌, cond, List, eqb, get_or, set, Float}
use Rattle.std.specs.Float.{nan, binary32}
use Rattle.std.specs.Float.Ieee.{add, mul, neg, le, of_bits}
use Rattle.sampler_fade.specs.Entry.{none}
use Rattle.sampler_voice.specs.declared.Channels.{Channels}
use Rattle.sampler_voice.specs.declared.Pair.{Pair}

-- 16.0
abbrev pub sixteen : Float
sixteen = of_bits binary32 0x4180_0000

-- "A recording entry not finite or above 16 in magnitude counts as 0.0"
unfoldable pub cleaned : Float → Float
cleaned x = cond (le (neg sixteen) x && le x sixteen) x none

-- "The smaller of the two channel counts is mixed": both channels where it is 2
abbrev pub both_mixed : Channels → Bool
both_mixed ch = eqb (min ch.recording ch.output) 2

-- "planar: channel 0's frames, then channel 1's": the place of frame i of channel c, in a buffer of `channels` of n frames each. The one way to an entry
abbrev pub entry : ℕ → ℕ → ℕ → ℕ → ℕ
entry channels n c i = c * n + i

-- ---- the pair

-- frame p of a recording of rn frames; 0.0 where channel 1 isn't mixed
unfoldable pub fetched : List Float → ℕ → Channels → ℕ → Pair
fetched rec rn ch p =
    record {
      left = cleaned (get_or rec (entry ch.recording rn 0 p) nan);
      right = cond (both_mixed ch) (cleaned (get_or rec (entry ch.recording rn 1 p) nan)) none;
    }

abbrev pub scaled : Float → Pair → Pair
scaled g p = record { left = mul binary32 g p.left; right = mul binary32 g p.right }

-- "output = output + .."
abbrev pub add_at : ℕ → Float → List Float → List Float
add_at i x out = set out i (add binary32 (get_or out i nan) x)

-- the pair added at frame j of an output of n frames
unfoldable pub added : ℕ → Channels → ℕ → Pair → List Float → List Float
added n ch j p out =
    let left = add_at (entry ch.output n 0 j) p.left out in
    cond (both_mixed ch) (add_at (entry ch.output n 1 j) p.right left) left
