-- What a leaf asks of its caller: room in a buffer, and room ahead of a voice. Definitions only.
use Rattle.std.specs.Prelude.{ℕ, ◌+◌, ◌*◌, ◌^◌, ◌<◌, ◌≤◌, List, length, get_or, Float}
use Rattle.sampler_voice.specs.declared.Voice.{Voice}
use Rattle.sampler_voice.specs.Voices.{silent}

-- c channels of n frames, one or more, stand in xs
abbrev pub Room : ℕ → ℕ → List Float → Type 0
Room c n xs = (0 < c) × (c * n ≤ length xs)

-- k frames lie ahead of every voice: no position comes near the end of 64 bits
abbrev pub Ahead : ℕ → List Voice → Type 0
Ahead k vs = (i : ℕ) → (get_or vs i silent).position + k < 2 ^ 62
