-- Document 01, "Frames to check": rows m1 to m12 and the limits under the table, with a row more for each of two traps (T of the sum, voices added together first), in one statement.
-- The idea: the definitions compute; a test on numbers holds by `tt`. Assumes nothing.
use Prim.Native.Nat.{ℕ, zero, suc, ◌/◌, ◌%◌, ◌^◌}
use mathlib.Core.Bool.{Bool, true, ◌&&◌}
use lib.Dec.{eqb, T}
use mathlib.Core.List.{List, [], ◌∷◌, ◌++◌}
use lib.IntN.{ℤ, pos, negsuc, ◌-ℤ◌}
use lib.ListN.{replicate, take, drop, length}
use lib.Ieee.{Float, binary32, of_bits, of_int, div, add, mul, neg, le, round, to_bits}
use Rattle.std.specs.Prelude.{Some}
use Rattle.timestamp.specs.Time.{time, time_of, seconds, frames_of, loop_end}
use Rattle.sampler_voice.specs.declared.Phase.TheVariants.{Playing}
use Rattle.sampler_fade.specs.Entry.{cleaned_fade, fade_at, one, none}
use Rattle.sampler_voice.specs.Sound.{cleaned, fetched, added}
use Rattle.sampler_voice.specs.Voices.{settled, next_phase, faded, sounded, frame, frames, mix, silent}
use Rattle.sampler_event.specs.declared.Kind.TheVariants.{Start}
use Rattle.sampler_event.specs.Record.{fields, event_of, read_record}
use Rattle.sampler_event.specs.Limits.{event_fault, admissible}
use Rattle.sampler_event.specs.Command.{command_answer}
use Rattle.event_processor.specs.Queue.{received}
use Rattle.sampler_player.specs.declared.Points.TheVariants.{Between}
use Rattle.sampler_player.specs.declared.Setup.{Setup}
use Rattle.sampler_player.specs.declared.Player.{Player}
use Rattle.sampler_player.specs.Clock.{clock_at, whole_frames}
use Rattle.sampler_player.specs.Assign.{quiet, stop, begin, assign_at}
use Rattle.sampler_player.specs.Events.{apply}
use Rattle.sampler_player.specs.Pieces.{Lent, Going, end_of, interval, loop_back, rendered, caught_up, pass_of, pass, passes, segment, renderings}
use Rattle.sampler_player.specs.Sound.{player_good}
use Rattle.sampler_processor.specs.declared.Leg.{Leg}
use Rattle.sampler_processor.specs.Numbers.{output_bad, queue_good, sound}
use Rattle.sampler_processor.specs.Block.{frame_of, up_to, applied, block}
use Rattle.sampler_processor.specs.Calls.{Rendered, make, submit, render}
use Rattle.frames_to_check.proofs.Written.{agrees, of_z, of_player, of_leg, of_rendered, of_out}

-- every definition of the leg, open: to name this on an `unfolding` line is to name them all
opened : Unit {0}
unfolding of_bits of_int div add mul neg le round to_bits time time_of seconds frames_of loop_end cleaned cleaned_fade fade_at fetched added settled next_phase faded sounded frame frames mix fields event_of read_record event_fault admissible command_answer received stop begin assign_at apply end_of interval loop_back rendered caught_up pass_of pass passes segment renderings player_good output_bad queue_good sound frame_of up_to applied block make submit render
opened = tt

-- a table of tests holds
all : List Bool → Bool
all [] = true
all (t ∷ ts) = t && all ts

-- ---- times

is_time : ℤ → ℤ → Bool
is_time a b = agrees (of_z a []) (of_z b [])

times : List Bool
times =
    -- m1 to m4
    is_time (time_of 48000 1) (pos 89478)
    ∷ is_time (time_of 48000 480) (pos 42949673)
    ∷ is_time (time_of 48000 48000) (pos 4294967296)
    ∷ is_time (time_of 8000 1) (pos 536871)
    ∷ is_time (time_of 44100 1) (pos 97392)
    -- m5 and m6, with m6's delay
    ∷ eqb (frame_of 48000 (pos 0) (pos 0) (pos 89478)) 0
    ∷ eqb (frame_of 48000 (pos 0) (pos 0) (pos 89479)) 1
    ∷ is_time (time_of 48000 1 -ℤ pos 89479) (negsuc 0)
    -- m7's frame
    ∷ eqb (frame_of 48000 (pos 0) (pos 0) (pos 42949672)) 479
    -- m8's T(100), and m11's T(50) and T(150)
    ∷ is_time (time_of 48000 100) (pos 8947849)
    ∷ is_time (time_of 48000 50) (pos 4473924)
    ∷ is_time (time_of 48000 150) (pos 13421773)
    ∷ []

-- ---- whole calls

-- a command record
le_bytes : ℕ → ℕ → List ℕ
le_bytes zero n = []
le_bytes (suc k) n = n % 256 ∷ le_bytes k (n / 256)

command : ℕ → ℕ → ℕ → ℕ → List ℕ
command kind time first second = le_bytes 2 kind ++ le_bytes 8 time ++ le_bytes 8 first ++ le_bytes 8 second

-- a leg of one channel at 48,000 that takes these commands
taking : Leg → List (List ℕ) → Leg
taking l [] = l
taking l (c ∷ cs) = taking (submit l c).leg cs

leg48 : ℕ → ℕ → List (List ℕ) → Leg
leg48 frames fade cs = taking (make (record { rate = 48000; channels = 1; frames = frames; fade = fade })).leg cs

-- and renders n frames at a start over zeros, from a recording of ones
run : ℕ → List Float → List (List ℕ) → ℕ → ℕ → Rendered
run frames table cs start n =
    render (leg48 frames (length table) cs) (record { recording = replicate frames one; table = table; channels = 1; block = n }) (replicate n none) (pos start)

-- 0, .25, .5, .75
table4 : List Float
table4 = of_bits binary32 0 ∷ of_bits binary32 0x3e80_0000 ∷ of_bits binary32 0x3f00_0000 ∷ of_bits binary32 0x3f40_0000 ∷ []

waiting : Rendered → ℕ
waiting r = r.answer.leg.queue.count

-- two voices at once: voice 0 fades out from frame 0 and voice 1 in from frame 10 (T(10)), over an output that is not zero
crossing : List Float
crossing =
    (render (leg48 20 4 (command 2 0 0 0 ∷ command 1 0 894785 0 ∷ [])) (record { recording = replicate 20 (of_bits binary32 0x3c60_0000); table = table4; channels = 1; block = 4 })
    (replicate 4 (of_bits binary32 0x4780_0000)) (pos 0)).out

sounds : List Float → List ℕ → Bool
sounds xs bits = agrees (of_out xs []) bits

is_player : Player → List ℕ → Bool
is_player p ns = agrees (of_player p []) ns

blocks : List Bool
blocks =
    -- m6: silence at frame 0, and from frame 1 on the voice; once applied the position is −1, and a piece of 1 frame later T(1) more
    is_player (run 0 [] (command 1 89479 0 0 ∷ []) 0 2).answer.leg.player (0 ∷ 2 ∷ 0 ∷ 0 ∷ 0 ∷ 0 ∷ 1 ∷ 0 ∷ 1 ∷ 0 ∷ 0 ∷ 0 ∷ 0 ∷ [])
    ∷ is_player (run 8 table4 (command 1 89479 0 0 ∷ []) 0 2).answer.leg.player (1 ∷ 2 ∷ 0 ∷ 0 ∷ 0 ∷ 0 ∷ 1 ∷ 0 ∷ 0 ∷ 89477 ∷ 0 ∷ 0 ∷ 0 ∷ [])
    ∷ sounds (run 8 table4 (command 1 89479 0 0 ∷ []) 0 2).out (0 ∷ 0x3f80_0000 ∷ [])
    -- m7: taken in a block of 480 frames, and one unit more waits
    ∷ eqb (waiting (run 0 [] (command 3 42949672 0 0 ∷ []) 0 480)) 0
    ∷ eqb (waiting (run 0 [] (command 3 42949673 0 0 ∷ []) 0 480)) 1
    -- m8: voice 0 begins at 99; voices, active, points, position, start, completed
    ∷ is_player (apply 48000 (Start (record { bits = pos 8947849 })) (pos 0 -ℤ pos 89478) quiet) (99 ∷ 1 ∷ 0 ∷ 0 ∷ 0 ∷ 0 ∷ 1 ∷ 0 ∷ 1 ∷ 89477 ∷ 0 ∷ 8947849 ∷ 0 ∷ [])
    -- and as a whole call, two frames later
    ∷ is_player (run 200 table4 (command 1 89478 8947849 0 ∷ []) 0 2).answer.leg.player (101 ∷ 1 ∷ 2 ∷ 0 ∷ 0 ∷ 0 ∷ 1 ∷ 0 ∷ 0 ∷ 89479 ∷ 0 ∷ 8947849 ∷ 0 ∷ [])
    -- a trap: the current time is T(1) + T(1), not T(2), so the second event's delay is −1
    ∷ is_player (run 200 table4 (command 3 89479 0 0 ∷ command 1 178957 0 0 ∷ []) 0 3).answer.leg.player (1 ∷ 2 ∷ 0 ∷ 0 ∷ 0 ∷ 0 ∷ 1 ∷ 0 ∷ 0 ∷ 89477 ∷ 0 ∷ 0 ∷ 0 ∷ [])
    -- m9: voice 24,000 FadingIn, position 2^31
    ∷ is_player (apply 48000 (Start (record { bits = pos 0 })) (pos (2 ^ 32) -ℤ pos (2 ^ 31)) quiet) (24000 ∷ 1 ∷ 0 ∷ 0 ∷ 0 ∷ 0 ∷ 1 ∷ 0 ∷ 0 ∷ 2 ^ 31 ∷ 0 ∷ 0 ∷ 0 ∷ [])
    -- and in a block of 1 frame: past the end of the recording nothing moves
    ∷ is_player (run 8 table4 (command 1 (2 ^ 31) 0 0 ∷ []) (2 ^ 32) 1).answer.leg.player (24000 ∷ 1 ∷ 0 ∷ 0 ∷ 0 ∷ 0 ∷ 1 ∷ 0 ∷ 0 ∷ 2 ^ 31 ∷ 0 ∷ 0 ∷ 0 ∷ [])
    -- a trap: voice 0 is added to the output, then voice 1. In steps of the output's last bit, 2^-7, a sample is 1.75: over 2^16 come 1.75 + 0, 1.3125 + .4375, .875 + .875 and
    -- .4375 + 1.3125, each sum rounded: 2 + 0, 1 + 0, 1 + 1 and 0 + 1. Voices added together first would give 1.75, hence 2, in every frame
    ∷ sounds crossing (0x4780_0002 ∷ 0x4780_0001 ∷ 0x4780_0002 ∷ 0x4780_0001 ∷ [])
    -- m10: 1, .75, .5, .25, 0, in one piece
    ∷ sounds (run 8 table4 (command 2 0 0 0 ∷ command 3 0 0 0 ∷ []) 0 5).out (0x3f80_0000 ∷ 0x3f40_0000 ∷ 0x3f00_0000 ∷ 0x3e80_0000 ∷ 0 ∷ [])
    ∷ eqb (run 8 table4 (command 2 0 0 0 ∷ command 3 0 0 0 ∷ []) 0 5).answer.pieces 1
    -- m11: frames 150 to 153, and all of them, in two pieces
    ∷ sounds (take 4 (drop 150 (run 200 table4 (command 4 0 4473924 13421773 ∷ command 2 0 0 0 ∷ []) 0 200).out)) (replicate 4 0x3f80_0000)
    ∷ sounds (run 200 table4 (command 4 0 4473924 13421773 ∷ command 2 0 0 0 ∷ []) 0 200).out (replicate 200 0x3f80_0000)
    ∷ eqb (run 200 table4 (command 4 0 4473924 13421773 ∷ command 2 0 0 0 ∷ []) 0 200).answer.pieces 2
    -- m12: unchanged, pieces 0
    ∷ agrees (of_rendered (run 8 table4 (command 3 0 0 0 ∷ []) 0 0) []) (0 ∷ 0 ∷ of_leg (leg48 8 4 (command 3 0 0 0 ∷ [])) [])
    ∷ []

-- ---- whole-frame arithmetic: the same rules at another clock. m11's pieces are 150 and 50 frames by either

looping : ℤ → ℤ → Going
looping from end =
    record {
      player =
          record {
            voices = record { position = 0; phase = Playing } ∷ silent ∷ [];
            active = Some 0;
            points = Between (record { bits = from }) (record { bits = end });
            position = record { bits = pos 0 };
            start = record { bits = pos 0 };
            completed = 0;
          };
      out = replicate 200 none;
      at = 0;
      remaining = 200;
      pieces = 0;
    }

setup200 : Setup
setup200 = record { rate = 48000; channels = 1; frames = 200; fade = 4 }

lent200 : Lent
lent200 = record { recording = replicate 200 one; table = table4; channels = 1; block = 200 }

clocks : List Bool
clocks =
    agrees (renderings whole_frames setup200 lent200 1000 (looping (pos 50) (pos 150))) (150 ∷ 50 ∷ [])
    ∷ agrees (renderings (clock_at 48000) setup200 lent200 1000 (looping (pos 4473924) (pos 13421773))) (150 ∷ 50 ∷ [])
    ∷ sounds (segment whole_frames setup200 lent200 (looping (pos 50) (pos 150))).out (replicate 200 0x3f80_0000)
    ∷ []

-- ---- limits

limits : List Bool
limits =
    -- a loop of 64 whole frames with F at most 64 is taken, 63 refused
    eqb (submit (leg48 0 64 []) (command 4 0 0 5726623)).number 0
    ∷ eqb (submit (leg48 0 0 []) (command 4 0 0 5726623)).number 0
    ∷ eqb (submit (leg48 0 64 []) (command 4 0 0 5637145)).number 12
    ∷ eqb (submit (leg48 0 65 []) (command 4 0 0 5726623)).number 12
    -- the 16th command is taken, the 17th refused, CancelAll taken
    ∷ eqb (submit (leg48 0 0 (replicate 15 (command 3 7 0 0))) (command 3 7 0 0)).number 0
    ∷ eqb (submit (leg48 0 0 (replicate 16 (command 3 7 0 0))) (command 3 7 0 0)).number 9
    ∷ agrees (of_leg (submit (leg48 0 0 (replicate 16 (command 3 7 0 0))) (command 6 0 0 0)).leg []) (of_leg (leg48 0 0 (command 6 0 0 0 ∷ [])) [])
    ∷ []

-- the table
rows : T (all times && (all blocks && (all clocks && all limits)))
unfolding opened agrees all is_time times le_bytes command taking leg48 run table4 waiting crossing sounds is_player blocks looping setup200 lent200 clocks limits
rows = tt
