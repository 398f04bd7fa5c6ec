-- `sampler_processor::block::Block::run` meets its contract.
-- The idea: the loop carries a `Loop`; an event that is due is one step of the definition, and none due is its end. Assumes nothing.
use Rattle.event_processor.specs.Queue.{pending}
use Rattle.sampler_processor.specs.Block.{opening, block as block_of}
use Rattle.sampler_player.specs.Pieces.{lent_by}
use Rattle.sampler_processor.proofs.Loops.{Loop}
use Rattle.sampler_processor.proofs.block.Block.run.Given as goal

abbrev pub invariant-loop-event : goal.invariant-loop-event
invariant-loop-event l =
    let s = l.self.setup in
    let b = lent_by l.self.lent in
    let start = l.self.start in
    Loop s b start l.end (block_of s b start.bits (pending l.initial.waiting) l.initial.waiting (opening l.initial.at.player l.initial.out start.bits)) l.waiting l.at l.out

abbrev pub decreases-loop-event : goal.decreases-loop-event
decreases-loop-event l = l.waiting.count
