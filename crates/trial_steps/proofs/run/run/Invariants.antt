-- `trial_steps::run::run` meets its contract: its leg is rendered block after block, and the bits that it sums are of no NaN.
-- The idea: the entries are zeros before each block, and no sample that a leg renders is a NaN (`render_numbers`). Assumes nothing.
use Rattle.std.proofs.Common.{◌≤◌}
use Rattle.trial_steps.specs.Follows.{Follows}
use Rattle.trial_steps.proofs.run.run.Given as goal

abbrev pub invariant-loop : goal.invariant-loop
invariant-loop l = (l.done.blocks ≤ l.counter) × Follows l.initial.leg 4 l.leg
