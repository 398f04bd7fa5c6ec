-- What a segment is given, and what numbers 1 to 5 leave of it. Definitions only.
use Rattle.std.specs.Prelude.{ℕ, ◌*◌, ◌≤◌, ◌≡◌, List, length, Float}
use Rattle.sampler_player.specs.declared.Setup.{Setup}
use Rattle.sampler_player.specs.declared.Player.{Player}
use Rattle.sampler_player.specs.Pieces.{Lent, Going, Segment}

-- a segment of `remaining` frames from frame `at` of the output on
abbrev pub starting : Player → List Float → ℕ → ℕ → Going
starting p out at remaining = record { player = p; out = out; at = at; remaining = remaining; pieces = 0 }

abbrev pub ending : Player → List Float → ℕ → Segment
ending p out pieces = record { player = p; out = out; pieces = pieces }

-- "Rates 8,000 to 96,000; channels 1 or 2 on each side; recording 0 to 4,194,304 frames"; lengths as 3, 4 and 5 leave them
pub record Ready (s : Setup) (b : Lent) (o : List Float) : Type 0 where
  pub slow : 8000 ≤ s.rate
  pub fast : s.rate ≤ 96000
  pub one : 1 ≤ s.channels
  pub two : s.channels ≤ 2
  pub short : s.frames ≤ 4194304
  pub one_out : 1 ≤ b.channels
  pub two_out : b.channels ≤ 2
  pub block : b.block ≤ 4096
  pub recording : length b.recording ≡ s.channels * s.frames
  pub table : length b.table ≡ s.fade
  pub out : length o ≡ b.channels * b.block
