-- `sampler_processor::numbers::output_bad` meets its contract.
-- The idea: what is bad so far, or from the next entry on, is what is bad at all. Assumes nothing.
use mathlib.Core.Path.{◌≡◌}
use mathlib.Core.Bool.{◌||◌}
use lib.ListN.{drop}
use Rattle.sampler_processor.specs.Numbers.{output_bad}
use Rattle.sampler_processor.proofs.numbers.output_bad.Given as goal

abbrev pub invariant-loop-x : goal.invariant-loop-x
invariant-loop-x l = output_bad l.out ≡ (l.bad || output_bad (drop l.x-index l.out))
