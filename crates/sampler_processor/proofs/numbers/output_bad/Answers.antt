-- `sampler_processor::numbers::output_bad` meets its contract.
-- The idea: what is bad so far, or from the next entry on, is what is bad at all. Assumes nothing.
use Prim.Native.Nat.{◌+◌}
use mathlib.Core.Path.{sym, ap, ◌∙◌}
use mathlib.Core.Bool.{Bool, ◌||◌}
use lib.ListN.{drop}
use native.Mathlib.Omega.{arith}
use Rattle.sampler_processor.specs.Numbers.{output_bad}
use Rattle.sampler_processor.proofs.Output.{output_on, output_none}
use Rattle.sampler_processor.proofs.numbers.output_bad.Goals as goal

pub loop-x-preserved : goal.loop-x-preserved
loop-x-preserved c =
    let v = c.loop-x in
    let xs = c.args.out.now in
    v.invariant ∙ output_on xs v.x-index _ (omega arith) v.bad
    ∙ ap (λ (x : Bool). (v.bad || x) || output_bad (drop (v.x-index + 1) xs)) (sym c.entry_bad-bad.ensures)

pub returns : goal.returns
returns c =
    let v = c.loop-x in
    sym (v.invariant ∙ output_none _ v.x-index v.bad (omega arith))
