-- `trial_steps::steps::placed` meets its contract.
-- The idea: the leg is the one that `leg_bytes::read` finds, of bytes that are well formed. Assumes nothing.
use Rattle.std.proofs.Common.{◌≡◌, true, Result, Ok, Err, Some, sym, ap, ◌∙◌, subst}
use Rattle.std.proofs.lemmas.Option.{none-some, same_Some}
use Rattle.std.specs.Result.{result_ok}
use Rattle.sampler_processor.specs.declared.Leg.{Leg}
use Rattle.leg_bytes.specs.Read.{LegRead, told}
use Rattle.trial_steps.specs.Follows.{Follows, placed}
use Rattle.trial_steps.proofs.steps.placed.Goals as goal

whole : (r : Result Leg Leg) (l : Leg) → Some l ≡ result_ok r → told r ≡ record { good = true; leg = l }
whole (Ok m) l e = ap (λ (x : Leg). record { good = true; leg = x }) (sym (same_Some l m e))
whole (Err m) l e = absurd (none-some l (sym e))

pub returns-clause-goes : goal.returns-clause-goes
returns-clause-goes c = λ h.
    let e = sym c.read.ensures ∙ whole c.read.result c.in_ok-leg.field-0 c.in_ok-leg.ensures.value in
    subst (Follows c.args.leg.now 3) (ap (λ (x : LegRead). x.leg) e) (placed _ (ap (λ (x : LegRead). x.good) e))
