-- Which legs their bytes hold whole. Definitions only.
use Rattle.std.specs.Prelude.{◌≡◌, ℕ, ◌^◌, ◌<◌, ◌≤◌, length, FitsSigned, slice_index_or, Option, None, Some}
use Rattle.std.specs.Int.{w64}
use Rattle.timestamp.specs.declared.Timestamp.{Timestamp}
use Rattle.sampler_event.specs.Events.{blank_event}
use Rattle.sampler_voice.specs.declared.Voice.{Voice}
use Rattle.sampler_voice.specs.Voices.{silent}
use Rattle.sampler_processor.specs.declared.Leg.{Leg}
use Rattle.leg_bytes.specs.Write.{fade_position, loop_start, loop_end, place_of}

-- a time of 64 bits
abbrev pub Time : Timestamp → Type 0
Time t = FitsSigned w64 t.bits

abbrev pub VoiceFits : Voice → Type 0
VoiceFits v = (fade_position v.phase < 2 ^ 64) × (v.position < 2 ^ 64)

-- one of the two voices
abbrev pub ActiveFits : Option ℕ → Type 0
ActiveFits None = Unit {0}
ActiveFits (Some i) = i < 2

-- its numbers fit the fields of docs/TRIAL.md: two voices, sixteen places, of which those past the count are blank
pub record Fitting (l : Leg) : Type 0 where
  pub rate : l.setup.rate < 2 ^ 32
  pub channels : l.setup.channels < 2 ^ 8
  pub frames : l.setup.frames < 2 ^ 32
  pub fade : l.setup.fade < 2 ^ 32
  pub two : length l.player.voices ≡ 2
  pub first : VoiceFits (slice_index_or l.player.voices 0 silent)
  pub second : VoiceFits (slice_index_or l.player.voices 1 silent)
  pub active : ActiveFits l.player.active
  pub from : Time (loop_start l.player.points)
  pub end : Time (loop_end l.player.points)
  pub position : Time l.player.position
  pub start : Time l.player.start
  pub completed : l.player.completed < 2 ^ 64
  pub count : l.queue.count < 2 ^ 8
  pub sixteen : length l.queue.events ≡ 16
  pub times : (i : ℕ) → i < 16 → Time (place_of l.queue i).time × (Time (place_of l.queue i).first × Time (place_of l.queue i).second)
  pub blank : (i : ℕ) → l.queue.count ≤ i → i < 16 → slice_index_or l.queue.events i blank_event ≡ blank_event
