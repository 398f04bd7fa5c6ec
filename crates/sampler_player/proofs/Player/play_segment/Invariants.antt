-- `sampler_player::Player::play_segment` meets its contract.
-- The idea: the loop carries `kept`, and that from here the passes come to the segment's end (`Turn`); it leaves where no pass is left. Assumes nothing.
use Prim.Native.Nat.{◌+◌}
use lib.ListN.{length}
use Rattle.sampler_player.specs.Clock.{clock_at}
use Rattle.sampler_player.specs.Pieces.{segment, lent_by}
use Rattle.sampler_player.specs.inner.Lending.{starting}
use Rattle.sampler_player.proofs.Turn.{Along}
use Rattle.sampler_player.proofs.Player.play_segment.Given as goal

abbrev pub invariant-loop-left : goal.invariant-loop-left
invariant-loop-left l =
    Along l.setup (lent_by l.lent) (segment (clock_at l.setup.rate) l.setup (lent_by l.lent) (starting l.initial.player l.initial.out l.at l.remaining)) (l.at + l.remaining) l.remaining (length l.initial.out)
    (record { player = l.player; out = l.out; at = l.done; remaining = l.left; pieces = l.pieces })

abbrev pub decreases-loop-left : goal.decreases-loop-left
decreases-loop-left l = l.left
