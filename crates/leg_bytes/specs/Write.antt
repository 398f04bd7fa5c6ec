-- A leg in bytes, field by field in the order of docs/TRIAL.md. Definitions only.
use Rattle.std.specs.Prelude.{ℕ, zero, suc, ◌+◌, ◌-◌, ◌%◌, ◌^◌, cond, List, [], ◌++◌, get_or, ℤ, pos, negsuc, nat_lt, slice_index_or, Option, None, Some}
use Rattle.timestamp.specs.declared.Timestamp.{Timestamp}
use Rattle.sampler_event.specs.declared.Kind.{Kind}
use Rattle.sampler_event.specs.declared.Kind.TheVariants.{Start, StartImmediate, Stop, EnableLoop, CancelLoop, CancelAll}
use Rattle.sampler_event.specs.declared.Record.{Record}
use Rattle.sampler_event.specs.Events.{blank_event}
use Rattle.event_processor.specs.declared.Queue.{Queue}
use Rattle.sampler_voice.specs.declared.Phase.{Phase}
use Rattle.sampler_voice.specs.declared.Phase.TheVariants.{Stopped, FadingIn, Playing, FadingOut}
use Rattle.sampler_voice.specs.declared.Voice.{Voice}
use Rattle.sampler_voice.specs.Voices.{silent}
use Rattle.sampler_player.specs.declared.Points.{Points}
use Rattle.sampler_player.specs.declared.Points.TheVariants.{Absent, Between}
use Rattle.sampler_player.specs.declared.Setup.{Setup}
use Rattle.sampler_player.specs.declared.Player.{Player}
use Rattle.sampler_processor.specs.declared.Leg.{Leg}
use Rattle.words.specs.Digits.{bytes_of}

-- ---- numbers: "Numbers are little-endian"

abbrev pub u8 : ℕ → List ℕ
u8 n = bytes_of 1 n

abbrev pub u32 : ℕ → List ℕ
u32 n = bytes_of 4 n

abbrev pub u64 : ℕ → List ℕ
u64 n = bytes_of 8 n

-- two's complement
abbrev pub bits_of : ℤ → ℕ
bits_of (pos n) = n
bits_of (negsuc n) = 2 ^ 64 - suc n

abbrev pub i64 : Timestamp → List ℕ
i64 t = u64 (bits_of t.bits)

-- the time 0
abbrev pub zero_time : Timestamp
zero_time = record { bits = pos 0 }

-- ---- "rate, recording channels, frames, F": 4, 1, 4, 4
abbrev pub setup_bytes : Setup → List ℕ
setup_bytes s = u32 s.rate ++ (u8 s.channels ++ (u32 s.frames ++ u32 s.fade))

-- ---- a voice: 1, 8, 8

-- "phase (0 Stopped, 1 FadingIn, 2 Playing, 3 FadingOut)"
abbrev pub phase_number : Phase → ℕ
phase_number Stopped = 0
phase_number (FadingIn i) = 1
phase_number Playing = 2
phase_number (FadingOut i) = 3

-- "fade position (0 where the phase has none)"
abbrev pub fade_position : Phase → ℕ
fade_position Stopped = 0
fade_position (FadingIn i) = i
fade_position Playing = 0
fade_position (FadingOut i) = i

-- its phase, fade position and position
abbrev pub voice_bytes : Voice → List ℕ
voice_bytes v = u8 (phase_number v.phase) ++ (u64 (fade_position v.phase) ++ u64 v.position)

-- ---- "active: 0 none, 1 voice 0, 2 voice 1": 1
abbrev pub active_number : Option ℕ → ℕ
active_number None = 0
active_number (Some i) = (i + 1) % 2 ^ 64

-- ---- "loop: 0 none, 1; its two points i64, zeros where none": 1, 8, 8
abbrev pub loop_number : Points → ℕ
loop_number Absent = 0
loop_number (Between a b) = 1

abbrev pub loop_start : Points → Timestamp
loop_start Absent = zero_time
loop_start (Between a b) = a

abbrev pub loop_end : Points → Timestamp
loop_end Absent = zero_time
loop_end (Between a b) = b

abbrev pub points_bytes : Points → List ℕ
points_bytes p = u8 (loop_number p) ++ (i64 (loop_start p) ++ i64 (loop_end p))

-- ---- the player: both voices, active, loop, and "position i64, start position i64, completed loops u64"
abbrev pub player_bytes : Player → List ℕ
player_bytes p =
    voice_bytes (slice_index_or p.voices 0 silent) ++ (voice_bytes (slice_index_or p.voices 1 silent) ++ (u8 (active_number p.active)
    ++ (points_bytes p.points ++ (i64 p.position ++ (i64 p.start ++ u64 p.completed)))))

-- ---- a place of the queue: "kind (a command's kind), time, first, second i64; all zero past the count": 1, 8, 8, 8

abbrev pub record_of : Timestamp → Kind → Record
record_of t (Start p) = record { kind = 1; time = t; first = p; second = zero_time }
record_of t StartImmediate = record { kind = 2; time = t; first = zero_time; second = zero_time }
record_of t Stop = record { kind = 3; time = t; first = zero_time; second = zero_time }
record_of t (EnableLoop a b) = record { kind = 4; time = t; first = a; second = b }
record_of t CancelLoop = record { kind = 5; time = t; first = zero_time; second = zero_time }
record_of t CancelAll = record { kind = 6; time = t; first = zero_time; second = zero_time }

abbrev pub zero_record : Record
zero_record = record { kind = 0; time = zero_time; first = zero_time; second = zero_time }

-- the place i
abbrev pub place_of : Queue → ℕ → Record
place_of q i = let e = get_or q.events i blank_event in cond (nat_lt i q.count) (record_of e.time e.kind) zero_record

abbrev pub record_bytes : Record → List ℕ
record_bytes r = u8 r.kind ++ (i64 r.time ++ (i64 r.first ++ i64 r.second))

-- the first n places
abbrev pub places_bytes : Queue → ℕ → List ℕ
places_bytes q zero = []
places_bytes q (suc n) = places_bytes q n ++ record_bytes (place_of q n)

-- ---- the leg: "count of events" and the sixteen places after what plays
abbrev pub queue_bytes : Queue → List ℕ
queue_bytes q = u8 q.count ++ places_bytes q 16

unfoldable pub leg_bytes : Leg → List ℕ
leg_bytes l = setup_bytes l.setup ++ (player_bytes l.player ++ queue_bytes l.queue)
