-- `sampler_processor::sound::queue_good` meets its contract.
-- The idea: what the events so far leave to decide is `good` of the rest, with the time of the last one passed. Assumes nothing.
use mathlib.Core.Path.{◌≡◌}
use mathlib.Core.Bool.{◌&&◌}
use lib.ListN.{drop}
use Rattle.sampler_event.specs.Limits.{admissible}
use Rattle.event_processor.specs.Queue.{pending, each, in_order}
use Rattle.sampler_processor.proofs.Waiting.{good}
use Rattle.sampler_processor.proofs.sound.queue_good.Given as goal

abbrev pub invariant-loop-event : goal.invariant-loop-event
invariant-loop-event l =
    let admits = admissible l.fn.sizes.setup.rate l.fn.sizes.setup.fade in
    (each admits (pending l.queue) && in_order (pending l.queue)) ≡ good admits l.last.bits (drop l.event-index (pending l.queue))
