-- `leg_bytes::parts::leg_at` meets its contract.
-- The idea: the calls' equations. Assumes nothing.
use Rattle.std.proofs.Common.{refl}
use Rattle.leg_bytes.specs.Read.{read_leg}
use Rattle.leg_bytes.proofs.parts.leg_at.Goals as goal

pub returns : goal.returns
unfolding read_leg
returns c = rw (c.setup_at.ensures, c.player_at.ensures, c.queue_at.ensures) refl
