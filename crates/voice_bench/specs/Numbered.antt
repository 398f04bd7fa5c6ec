-- Channels and a voice by numbers, as C names them. Definitions only.
use Rattle.std.specs.Prelude.{ℕ}
use Rattle.sampler_voice.specs.declared.Channels.{Channels}
use Rattle.sampler_voice.specs.declared.Voice.{Voice}
use Rattle.sampler_voice.specs.Voices.{numbered}

-- how many channels the recording has, and the output
abbrev pub sides_of : ℕ → ℕ → Channels
sides_of recording output = record { recording = recording; output = output }

-- a phase's number, its fade position, and the voice's position
abbrev pub voice_of : ℕ → ℕ → ℕ → Voice
voice_of kind i p = record { position = p; phase = numbered kind i }
