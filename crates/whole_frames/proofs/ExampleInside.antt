-- A run that begins inside a block: EnableLoop and StartImmediate at frame 0, and a start from the recording's frame 10 at frame 20, after one piece. The same loop, blocks and recording.
-- The idea: as in Example. Assumes nothing.
use mathlib.Core.Path.{◌≡◌, refl, subst}
use mathlib.Core.Bool.{Bool, ◌&&◌}
use mathlib.Core.List.{List, [], ◌∷◌, ◌++◌}
use lib.Dec.{T, lit≤}
use lib.IntN.{pos}
use lib.ListN.{replicate, take, drop, length}
use Rattle.sampler_fade.specs.Entry.{none}
use Rattle.sampler_event.specs.declared.Event.{Event}
use Rattle.sampler_event.specs.declared.Kind.TheVariants.{Start, StartImmediate, EnableLoop}
use Rattle.sampler_event.specs.Record.{fields, event_of, read_record}
use Rattle.sampler_event.specs.Command.{command_answer}
use Rattle.event_processor.specs.Queue.{received, without}
use Rattle.sampler_player.specs.Events.{apply}
use Rattle.sampler_player.specs.declared.Setup.{Setup}
use Rattle.sampler_processor.specs.declared.Leg.{Leg}
use Rattle.sampler_processor.specs.Block.{Running}
use Rattle.sampler_processor.specs.Calls.{make, submit}
use Rattle.whole_frames.specs.Run as Run
use Rattle.whole_frames.specs.Run.{at, on, past, opening, Call, submitted, leg_after_all, Midway, leg_rest, told_rest, told_all, told_from, reported_at, reported_all, reported_from, call_of, no_start, Drifts}
use Rattle.whole_frames.specs.Whole.{loop, Whole, in_frames, Given, whole_run, parts, given, calls, Budget, midway_part, midway_given, long}
use Rattle.whole_frames.proofs.First.{first_half_reported}
use Rattle.whole_frames.proofs.Second.{second_half}
use Rattle.whole_frames.proofs.Example.{opened, rising, lent, same, counted, heard, bits}

-- ---- the run

-- command records: kind, time, and the two times of the loop or the one of the start
commands : List Call
commands =
    submitted (4 ∷ replicate 9 0 ++ (0x34 ∷ 0xec ∷ 0x0a ∷ []) ++ replicate 5 0 ++ (0xd3 ∷ 0x4d ∷ 0x62 ∷ []) ++ replicate 5 0)
    ∷ submitted (2 ∷ replicate 25 0)
    ∷ submitted (1 ∷ 0 ∷ 0x82 ∷ 0x4e ∷ 0x1b ∷ replicate 5 0 ++ (0x41 ∷ 0xa7 ∷ 0x0d ∷ []) ++ replicate 13 0)
    ∷ []

setup96 : Setup
setup96 = record { rate = 48000; channels = 1; frames = 96; fade = 4 }

ready : Leg
ready = leg_after_all (make setup96).leg commands

-- past the three events
e1 : Event
e1 = record { time = record { bits = pos 0 }; kind = EnableLoop (record { bits = pos 715828 }) (record { bits = pos 6442451 }) }

e2 : Event
e2 = record { time = record { bits = pos 0 }; kind = StartImmediate }

e3 : Event
e3 = record { time = record { bits = pos 1789570 }; kind = Start (record { bits = pos 894785 }) }

on_past : Event → Running → Running
on_past e r = past setup96 (lent 100) (pos 0) e r

pub midway : Midway
unfolding opened rising lent fields event_of read_record command_answer received make submit apply commands setup96 ready e1 e2 e3 on_past
midway =
    record {
      leg = ready;
      lent = lent 100;
      out = replicate 100 none;
      start = pos 0;
      events = [];
      queue = without (without (without ready.queue));
      running = on_past e3 (on_past e2 (on_past e1 (opening ready (replicate 100 none) (pos 0))));
      taken = refl;
      comes = on refl (on refl (on refl at));
    }

-- one more block, which starts where the first ends, at T(100)
pub more : List Call
more = Run.rendered (lent 110) (replicate 110 none) (pos 8947849) ∷ []

-- every definition of this run, open
here : Unit {0}
unfolding opened rising lent fields event_of read_record command_answer received make submit apply commands setup96 ready e1 e2 e3 on_past midway more leg_rest told_rest told_from reported_at reported_all reported_from
here = tt

-- ---- what both halves ask
pub begins_whole : Whole 48000 10 (loop 8 72) midway.running.player
unfolding here
begins_whole = record { position = refl; completed = refl; start = lit≤ tt; points = (lit≤ tt, lit≤ tt) }

pub no_event : (told_rest midway).events ≡ []
unfolding here
no_event = refl

pub no_event_more : (told_all (leg_rest midway) more).events ≡ []
unfolding here
no_event_more = refl

pub in_budget : Budget 48000 (length ((midway_given midway).pieces ++ (told_all (leg_rest midway) more).pieces)) (leg_after_all (leg_rest midway) more).player.completed
unfolding here
in_budget = lit≤ tt

-- 5 pieces are reported, and 1 of them is before the start
pub reported : reported_from midway more ≡ 4
unfolding here
reported = refl

pub no_start_lem : no_start (told_from midway more)
unfolding here
no_start_lem = refl

-- ---- the first half: k is 4
pub within_two_units : Drifts 48000 4 (told_from midway more).pieces (pos 0) (leg_after_all midway.leg (call_of midway ∷ more)).player.position.bits
unfolding here
within_two_units = first_half_reported midway more 4 no_start_lem (lit≤ tt)

-- ---- the second half: what it gives, in numbers, is the same in whole frames. The output has the 20 frames before the start too, and the start fades from frames 20 to 23 into 10 to 13
pub test : List Given → Bool
test gs =
    same (counted gs) (1 ∷ 62 ∷ 18 ∷ 2 ∷ 46 ∷ 64 ∷ [])
    && (same (bits (take 8 (drop 18 (heard gs)))) (0x3f80_0012 ∷ 0x3f80_0013 ∷ 0x3f80_0014 ∷ 0x3f80_0013 ∷ 0x3f80_0011 ∷ 0x3f80_0010 ∷ 0x3f80_000e ∷ 0x3f80_000f ∷ [])
    && same (bits (take 8 (drop 80 (heard gs)))) (0x3f80_0046 ∷ 0x3f80_0047 ∷ 0x3f80_0048 ∷ 0x3f80_0039 ∷ 0x3f80_002a ∷ 0x3f80_001b ∷ 0x3f80_000c ∷ 0x3f80_000d ∷ []))

abbrev pub in_time : List Given
in_time = midway_given midway ∷ given (leg_rest midway) more

abbrev pub in_whole : List Given
in_whole = whole_run midway.leg.setup (in_frames 10 (loop 8 72) midway.running.player) (midway_part midway ∷ parts (leg_rest midway) more)

of_the_leg : T (test in_time)
unfolding here same counted heard bits test
of_the_leg = tt

the_same : in_time ≡ in_whole
unfolding here
the_same = second_half midway 10 (loop 8 72) _ _ _ _ begins_whole (long no_event (calls more no_event_more)) in_budget

pub whole : (in_time ≡ in_whole) × T (test in_whole)
whole = (the_same, subst (λ (gs : List Given). T (test gs)) the_same of_the_leg)
