-- `fades::sum_of` is safe: the sum passes 64 bits nowhere.
-- The idea: it stays below 2^32, being a remainder.
use Rattle.std.proofs.Common.{◌^◌, ◌<◌}
use Rattle.fades.proofs.sum_of.Given as goal

abbrev pub invariant-loop-x : goal.invariant-loop-x
invariant-loop-x l = l.sum < 2 ^ 32
