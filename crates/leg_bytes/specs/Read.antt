-- Which bytes are a leg, by docs/TRIAL.md's "What is malformed", and which leg they are. Definitions only.
use Rattle.std.specs.Prelude.{ℕ, zero, suc, ◌+◌, ◌-◌, ◌*◌, Bool, true, false, cond, ◌&&◌, ◌||◌, List, [], ◌∷◌, length, take, drop, replicate, ◌==◌, nat_le, nat_lt, slice_set, Option, None, Some, Result, Ok, Err}
use Rattle.std.specs.Bool.{then_some}
use Rattle.timestamp.specs.declared.Timestamp.{Timestamp}
use Rattle.sampler_event.specs.declared.Kind.{Kind}
use Rattle.sampler_event.specs.declared.Kind.TheVariants.{Start, StartImmediate, Stop, EnableLoop, CancelLoop, CancelAll}
use Rattle.sampler_event.specs.declared.Event.{Event}
use Rattle.sampler_event.specs.Events.{blank_event}
use Rattle.sampler_event.specs.Record.{little, time_from}
use Rattle.event_processor.specs.declared.Queue.{Queue}
use Rattle.sampler_voice.specs.declared.Voice.{Voice}
use Rattle.sampler_voice.specs.Voices.{numbered}
use Rattle.sampler_player.specs.declared.Points.{Points}
use Rattle.sampler_player.specs.declared.Points.TheVariants.{Absent, Between}
use Rattle.sampler_player.specs.declared.Setup.{Setup}
use Rattle.sampler_player.specs.declared.Player.{Player}
use Rattle.sampler_processor.specs.declared.Leg.{Leg}

-- the number of n bytes from `at` on
abbrev pub number_at : List ℕ → ℕ → ℕ → ℕ
number_at s at n = little (take n (drop at s))

abbrev pub time_at : List ℕ → ℕ → Timestamp
time_at s at = time_from (number_at s at 8)

abbrev pub setup_at : List ℕ → Setup
setup_at s = record { rate = number_at s 0 4; channels = number_at s 4 1; frames = number_at s 5 4; fade = number_at s 9 4 }

-- ---- a voice: malformed are "a phase above 3, a fade position in a phase that has none"

abbrev pub phase_good : ℕ → ℕ → Bool
phase_good k f = cond (k == 1) true (cond (k == 3) true (cond (nat_lt k 4) (f == 0) false))

-- a voice, and whether it is well formed
pub record VoiceRead : Type 0 where
  pub good : Bool
  pub voice : Voice

abbrev pub voice_at : List ℕ → ℕ → VoiceRead
voice_at s at =
    let k = number_at s at 1 in
    let f = number_at s (at + 1) 8 in
    record { good = phase_good k f; voice = record { position = number_at s (at + 9) 8; phase = numbered k f } }

-- ---- "active above 2"
abbrev pub active_of : ℕ → Option ℕ
active_of n = cond (n == 0) None (Some (n - 1))

-- ---- "a loop byte above 1, points without a loop"

-- the points, and whether they are well formed
pub record PointsRead : Type 0 where
  pub good : Bool
  pub points : Points

abbrev pub points_at : List ℕ → ℕ → PointsRead
points_at s at =
    let k = number_at s at 1 in
    cond (k == 0)
    (record { good = number_at s (at + 1) 8 == 0 && (number_at s (at + 9) 8 == 0); points = Absent })
    (record { good = (k == 1); points = Between (time_at s (at + 1)) (time_at s (at + 9)) })

-- ---- the player, from byte 13 on

-- the player, and whether it is well formed
pub record PlayerRead : Type 0 where
  pub good : Bool
  pub player : Player

unfoldable pub player_at : List ℕ → PlayerRead
player_at s =
    let a = voice_at s 13 in
    let b = voice_at s 30 in
    let n = number_at s 47 1 in
    let l = points_at s 48 in
    record {
      good = a.good && (b.good && (nat_lt n 3 && l.good));
      player =
          record {
            voices = a.voice ∷ b.voice ∷ [];
            active = active_of n;
            points = l.points;
            position = time_at s 65;
            start = time_at s 73;
            completed = number_at s 81 8;
          };
    }

-- ---- a place of the queue: "a kind that is not 1 to 6 below the count, a position that the kind does not have, anything but zeros past the count"

abbrev pub kind_of : ℕ → Timestamp → Timestamp → Kind
kind_of k a b =
    cond (k == 2) StartImmediate
    (cond (k == 3) Stop
    (cond (k == 4) (EnableLoop a b)
    (cond (k == 5) CancelLoop
    (cond (k == 6) CancelAll (Start a)))))

-- whether the kind is one, and has no position but its own: those of kind 4 are two, that of kind 1 is one
abbrev pub kind_good : ℕ → ℕ → ℕ → Bool
kind_good k a b = (nat_le 1 k && nat_le k 6) && (k == 4 || (b == 0 && (k == 1 || a == 0)))

-- an event, and whether it is well formed
pub record EventRead : Type 0 where
  pub good : Bool
  pub event : Event

-- a place below the count
abbrev pub event_at : List ℕ → ℕ → EventRead
event_at s at =
    let k = number_at s at 1 in
    record {
      good = kind_good k (number_at s (at + 9) 8) (number_at s (at + 17) 8);
      event = record { time = time_at s (at + 1); kind = kind_of k (time_at s (at + 9)) (time_at s (at + 17)) };
    }

-- a place past it
abbrev pub blank_at : List ℕ → ℕ → EventRead
blank_at s at =
    record {
      good = (number_at s at 1 == 0 && number_at s (at + 1) 8 == 0) && (number_at s (at + 9) 8 == 0 && number_at s (at + 17) 8 == 0);
      event = blank_event;
    }

-- the place i, of 25 bytes from byte 90 on
abbrev pub place_at : List ℕ → ℕ → EventRead
place_at s i = cond (nat_lt i (number_at s 89 1)) (event_at s (90 + 25 * i)) (blank_at s (90 + 25 * i))

-- the first n places read
abbrev pub events_at : List ℕ → ℕ → List Event
events_at s zero = replicate 16 blank_event
events_at s (suc n) = slice_set (events_at s n) n (place_at s n).event

abbrev pub places_good : List ℕ → ℕ → Bool
places_good s zero = true
places_good s (suc n) = places_good s n && (place_at s n).good

-- the queue, and whether it is well formed
pub record QueueRead : Type 0 where
  pub good : Bool
  pub queue : Queue

unfoldable pub queue_at : List ℕ → QueueRead
queue_at s = record { good = places_good s 16; queue = record { events = events_at s 16; count = number_at s 89 1 } }

-- ---- the leg: 490 bytes, with no value "that the leg's own types can't hold"

-- the leg, and whether the bytes are well formed
pub record LegRead : Type 0 where
  pub good : Bool
  pub leg : Leg

unfoldable pub read_leg : List ℕ → LegRead
unfolding player_at queue_at
read_leg s =
    let p = player_at s in
    let q = queue_at s in
    record { good = length s == 490 && (p.good && q.good); leg = record { setup = setup_at s; player = p.player; queue = q.queue } }

-- the leg, where the bytes are one
abbrev pub leg_of : List ℕ → Option Leg
leg_of s = then_some (read_leg s).good (read_leg s).leg

-- what is told by each case of what the code answers
abbrev pub told : Result Leg Leg → LegRead
told (Ok l) = record { good = true; leg = l }
told (Err l) = record { good = false; leg = l }
