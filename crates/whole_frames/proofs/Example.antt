-- A run that meets what the second half asks: 96 frames that all differ, a loop from frame 8 to 72, blocks of 100 and 110. It is the same in whole frames: 5 pieces, 3 loops, these samples.
-- The idea: the definitions compute; a test on numbers holds by `tt`. Assumes nothing.
use Prim.Native.Nat.{ℕ, zero, suc, ◌+◌}
use mathlib.Core.Path.{◌≡◌, refl, subst}
use mathlib.Core.Bool.{Bool, true, false, ◌&&◌}
use mathlib.Core.List.{List, [], ◌∷◌, ◌++◌}
use lib.Dec.{eqb, T, lit≤}
use lib.IntN.{pos}
use lib.ListN.{replicate, take, drop, length}
use lib.Ieee.{Float, binary32, of_bits, to_bits, of_int, div, add, mul, neg, le, round}
use Rattle.std.specs.Prelude.{Some}
use Rattle.timestamp.specs.Time.{time, time_of, seconds, frames_of, loop_end}
use Rattle.sampler_fade.specs.Entry.{cleaned_fade, fade_at, none}
use Rattle.sampler_voice.specs.Sound.{cleaned, fetched, added}
use Rattle.sampler_voice.specs.Voices.{silent, started_at, settled, next_phase, faded, sounded, frame, frames, mix}
use Rattle.sampler_event.specs.Limits.{event_fault, admissible}
use Rattle.event_processor.specs.Queue.{empty_queue}
use Rattle.sampler_player.specs.declared.Points.TheVariants.{Between}
use Rattle.sampler_player.specs.Assign.{stop, begin, assign_at}
use Rattle.sampler_player.specs.Pieces.{Lent, end_of, interval, loop_back, rendered, caught_up, pass_of, pass, passes, segment, renderings}
use Rattle.sampler_player.specs.Sound.{player_good}
use Rattle.sampler_processor.specs.declared.Leg.{Leg}
use Rattle.sampler_processor.specs.Numbers.{output_bad, queue_good, sound}
use Rattle.sampler_processor.specs.Block.{frame_of, up_to, applied, block}
use Rattle.sampler_processor.specs.Calls.{render}
use Rattle.whole_frames.specs.Run as Run
use Rattle.whole_frames.specs.Run.{Call, told_of, told_at, leg_after, told_all, leg_after_all}
use Rattle.whole_frames.specs.Whole.{loop, Whole, in_frames, Given, whole_run, given_at, parts, given, calls, Budget}
use Rattle.whole_frames.proofs.Second.{second_half_leg}

-- every definition of a run, open: to name this on an `unfolding` line is to name them all
unfoldable pub opened : Unit {0}
unfolding of_bits to_bits of_int div add mul neg le round time time_of seconds frames_of loop_end cleaned cleaned_fade fade_at fetched added settled next_phase faded sounded frame frames mix event_fault admissible stop begin assign_at end_of interval loop_back rendered caught_up pass_of pass passes segment renderings player_good output_bad queue_good sound frame_of up_to applied block render told_of told_at leg_after told_all leg_after_all given_at given
opened = tt

-- ---- the run

-- 1 and the floats next above it: n of them, from b on
unfoldable pub rising : ℕ → ℕ → List Float
rising zero b = []
rising (suc n) b = of_bits binary32 b ∷ rising n (b + 1)

-- fade entries 0, .25, .5, .75
unfoldable pub lent : ℕ → Lent
lent n =
    record {
      recording = rising 96 0x3f80_0000;
      table = of_bits binary32 0 ∷ of_bits binary32 0x3e80_0000 ∷ of_bits binary32 0x3f00_0000 ∷ of_bits binary32 0x3f40_0000 ∷ [];
      channels = 1;
      block = n;
    }

-- voice 0 plays from 0 under the loop
pub leg : Leg
leg =
    record {
      setup = record { rate = 48000; channels = 1; frames = 96; fade = 4 };
      player =
          record {
            voices = started_at 0 ∷ silent ∷ [];
            active = Some 0;
            points = Between (record { bits = pos 715828 }) (record { bits = pos 6442451 });
            position = record { bits = pos 0 };
            start = record { bits = pos 0 };
            completed = 0;
          };
      queue = empty_queue;
    }

-- over zeros; the second block starts where the first ends, at T(100)
pub run : List Call
run = Run.rendered (lent 100) (replicate 100 none) (pos 0) ∷ Run.rendered (lent 110) (replicate 110 none) (pos 8947849) ∷ []

-- ---- what the second half asks
pub begins_whole : Whole 48000 0 (loop 8 72) leg.player
unfolding leg
begins_whole = record { position = refl; completed = refl; start = lit≤ tt; points = (lit≤ tt, lit≤ tt) }

pub no_event : (told_all leg run).events ≡ []
unfolding opened rising lent leg run
no_event = refl

pub in_budget : Budget 48000 (length (told_all leg run).pieces) (leg_after_all leg run).player.completed
unfolding opened rising lent leg run
in_budget = lit≤ tt

-- ---- what it gives, in numbers
unfoldable pub same : List ℕ → List ℕ → Bool
same [] [] = true
same [] (y ∷ ys) = false
same (x ∷ xs) [] = false
same (x ∷ xs) (y ∷ ys) = eqb x y && same xs ys

-- of each block: the completed loops, then the frames of each piece
unfoldable pub counted : List Given → List ℕ
counted [] = []
counted (g ∷ gs) = g.completed ∷ g.pieces ++ counted gs

-- the output of all blocks
unfoldable pub heard : List Given → List Float
heard [] = []
heard (g ∷ gs) = g.out ++ heard gs

unfoldable pub bits : List Float → List ℕ
bits [] = []
bits (x ∷ xs) = to_bits binary32 x ∷ bits xs

-- the first turn, after frame 71, is a fade from the recording's frames 72 to 75 into 8 to 11
pub test : List Given → Bool
test gs =
    same (counted gs) (1 ∷ 72 ∷ 28 ∷ 3 ∷ 36 ∷ 64 ∷ 10 ∷ [])
    && same (bits (take 8 (drop 70 (heard gs)))) (0x3f80_0046 ∷ 0x3f80_0047 ∷ 0x3f80_0048 ∷ 0x3f80_0039 ∷ 0x3f80_002a ∷ 0x3f80_001b ∷ 0x3f80_000c ∷ 0x3f80_000d ∷ [])

of_the_leg : T (test (given leg run))
unfolding opened rising lent leg run same counted heard bits test
of_the_leg = tt

-- ---- so it is the same in whole frames, and that is these numbers
abbrev pub in_whole : List Given
in_whole = whole_run leg.setup (in_frames 0 (loop 8 72) leg.player) (parts leg run)

the_same : given leg run ≡ in_whole
unfolding leg
the_same = second_half_leg leg 0 (loop 8 72) (parts leg run) (given leg run) _ _ begins_whole (calls run no_event) in_budget

pub whole : (given leg run ≡ in_whole) × T (test in_whole)
whole = (the_same, subst (λ (gs : List Given). T (test gs)) the_same of_the_leg)
