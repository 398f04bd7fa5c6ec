-- `leg_bytes::parts::player_at` meets its contract.
-- The idea: the calls' equations. Assumes nothing.
use Rattle.std.proofs.Common.{refl}
use Rattle.leg_bytes.specs.Read.{player_at}
use Rattle.leg_bytes.proofs.parts.player_at.Goals as goal

pub returns : goal.returns
unfolding player_at
returns c = rw
    (c.voice_at.ensures, c.voice_at-2.ensures, c.active_of.ensures, ← c.number.ensures.value, c.points_at.ensures, c.time_at.ensures, c.time_at-2.ensures, c.number-2.ensures.value)
    refl
