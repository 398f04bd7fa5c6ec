-- `trial_steps::run::run` meets its contract: its leg is rendered block after block, and the bits that it sums are of no NaN.
-- The idea: the entries are zeros before each block, and no sample that a leg renders is a NaN (`render_numbers`). Assumes nothing.
use Rattle.std.proofs.Common.{ℕ, ◌<◌, replicate, sym, ap, subst, arith}
use Rattle.std.proofs.lemmas.List.{get_or-replicate, length-replicate}
use lib.Ieee.{nan, is_nan, of_bits, binary32}
use Rattle.laws.proofs.NoNan.{Number}
use Rattle.sampler_voice.proofs.NoNan.{Numbers}
use Rattle.sampler_processor.specs.Calls.{Rendered}
use Rattle.sampler_processor.proofs.NoNan.{render_numbers}
use Rattle.trial_steps.specs.Follows.{none}
use Rattle.trial_steps.proofs.Stepped.{rendered_again}
use Rattle.trial_steps.proofs.run.run.Goals as goal

zero_number : Number (of_bits binary32 0)
unfolding is_nan of_bits
zero_number = tt

zeros : (n : ℕ) → Numbers (replicate n (of_bits binary32 0))
zeros n i h =
    let k : i < n = simp length-replicate at h in
    subst Number (sym (get_or-replicate n i (of_bits binary32 0) nan k)) zero_number

pub loop-init : goal.loop-init
loop-init c = (omega arith, none)

pub bits_sum-requires-clause-numbers : goal.bits_sum-requires-clause-numbers
bits_sum-requires-clause-numbers c =
    let z = subst Numbers (sym (c.fill.ensures.after (λ y h. h))) (zeros _) in
    subst Numbers (sym (ap (λ (x : Rendered). x.out) c.in-Ok.ensures)) (render_numbers _ _ _ _ z)

pub loop-preserved : goal.loop-preserved
loop-preserved c = (omega arith, rendered_again _ _ _ _ _ _ c.in-Ok.ensures c.loop.invariant.1)

pub returns-in-Err : goal.returns-in-Err
returns-in-Err c = rendered_again _ _ _ _ _ _ c.in-Err.ensures c.loop.invariant.1
