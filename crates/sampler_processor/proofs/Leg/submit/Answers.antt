-- `sampler_processor::Leg::submit` meets its contract.
-- The idea: the tests are the definition's, in its order; a sound leg's sizes are what `command` asks, and a full queue is as it was. Assumes nothing.
use mathlib.Core.Path.{◌≡◌, refl, ap, ap₂, sym, ◌∙◌}
use Rattle.laws.specs.Rules.{number_of}
use Rattle.laws.proofs.Refusals.{not_zero}
use Rattle.sampler_event.specs.Command.{taken_event, refused_event}
use Rattle.event_processor.specs.Queue.{QueueAnswer, received}
use Rattle.sampler_processor.specs.Calls.{leg_answer, commanded, submit}
use Rattle.sampler_processor.proofs.Answers.{commanded_refused, commanded-entered}
use Rattle.sampler_processor.proofs.Legs.{sound_sized}
use Rattle.sampler_processor.proofs.Refused.{entered_refused}
use Rattle.sampler_processor.proofs.Leg.submit.Goals as goal

pub returns-then-not-sound : goal.returns-then-not-sound
unfolding submit
returns-then-not-sound c = rw (sym c.sound.ensures ∙ c.if-not-sound.true) refl

pub invariant_of-limits : goal.invariant_of-limits
invariant_of-limits c =
    let z = sound_sized _ (sym c.sound.ensures ∙ c.if-not-sound.false) in
    record {
      fast = z.rate_high;
      fade_bound = z.fade_high;
    }

pub returns-in-Err : goal.returns-in-Err
unfolding submit
returns-in-Err c =
    let l = c.args.self in
    let r = c.in-Err.refusal in
    rw (sym c.sound.ensures ∙ c.if-not-sound.false)
    (commanded_refused l (refused_event (number_of r)) (not_zero r) ∙ ap (commanded l) c.in-Err.ensures)

pub returns-in-Ok-receive : goal.returns-in-Ok-receive
unfolding submit
returns-in-Ok-receive c =
    let l = c.args.self in
    rw (sym c.sound.ensures ∙ c.if-not-sound.false)
    (commanded-entered l (taken_event c.in-Ok.event) _ c.in-Ok-receive.ensures refl ∙ ap (commanded l) c.in-Ok.ensures)

pub returns-in-Err-receive : goal.returns-in-Err-receive
unfolding submit
returns-in-Err-receive c =
    let l = c.args.self in
    let e = c.in-Ok.event in
    let r = c.in-Err-receive.full.refusal in
    let n : number_of r ≡ (received e l.queue).number = ap (λ (a : QueueAnswer). a.number) c.in-Err-receive.ensures in
    rw (sym c.sound.ensures ∙ c.if-not-sound.false)
    (ap₂ leg_answer n (sym (entered_refused l e (λ z. not_zero r (n ∙ z))))
    ∙ commanded-entered l (taken_event e) (received e l.queue) refl refl
    ∙ ap (commanded l) c.in-Ok.ensures)
