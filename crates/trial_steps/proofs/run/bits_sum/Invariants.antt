-- `trial_steps::run::bits_sum` is safe and ends.
-- The idea: after i entries the upper halves sum to at most 65,535 times i, and there are few enough for 32 bits. Assumes nothing.
use Rattle.std.proofs.Common.{◌*◌, ◌≤◌}
use Rattle.trial_steps.proofs.run.bits_sum.Given as goal

abbrev pub invariant-loop-x : goal.invariant-loop-x
invariant-loop-x l = l.high ≤ 65535 * l.x-index
