-- `sampler_processor::sound::queue_good` meets its contract.
-- The idea: what the events so far leave to decide is `good` of the rest, with the time of the last one passed. Assumes nothing.
use Prim.Native.Nat.{ℕ}
use mathlib.Core.Path.{◌≡◌, refl, sym, ap₂, ◌∙◌}
use mathlib.Core.Bool.{false}
use borrow.Author.Tests.{le-leb, lt-leb}
use lib.ListN.{drop, get_or}
use Rattle.sampler_event.specs.Events.{blank_event}
use Rattle.sampler_event.specs.Limits.{admissible}
use Rattle.event_processor.specs.Queue.{pending}
use Rattle.sampler_processor.proofs.Waiting.{good, good_bad, good_early, good_none}
use Rattle.sampler_processor.specs.Numbers.{queue_good}
use Rattle.sampler_processor.proofs.sound.queue_good.Goals as goal
use Rattle.sampler_processor.proofs.sound.queue_good.Goals.{then-not-admissible-via-then-not-admissible, then-not-admissible-via-else-not-admissible+then-is_before}

pub returns-then-queue-gt16 : goal.returns-then-queue-gt16
unfolding queue_good
returns-then-queue-gt16 c = rw (lt-leb _ 16 c.if-queue-gt16.true) refl

pub returns-then-not-admissible : goal.returns-then-not-admissible
unfolding queue_good
returns-then-not-admissible c =
    let s = c.args.sizes.setup in
    let l = pending c.args.queue.now in
    let v = c.loop-event in
    let h = c.loop-event-test.true in
    let g : good (admissible s.rate s.fade) v.last.bits (drop v.event-index l) ≡ false =
    elim c.then-not-admissible.branch [
      | then-not-admissible-via-then-not-admissible w ↦ good_bad (admissible s.rate s.fade) v.last.bits l v.event-index blank_event h (sym (ap₂ (λ (r f : ℕ). admissible r f (get_or l v.event-index blank_event)) c.limits-limits.ensures.0 c.limits-limits.ensures.1) ∙ sym c.admissible.ensures ∙ w.if-not-admissible.true)
      | then-not-admissible-via-else-not-admissible+then-is_before w ↦ good_early (admissible s.rate s.fade) v.last.bits l v.event-index blank_event h (sym w.is_before.ensures ∙ w.if-is_before.true)
    ] in
    rw (le-leb _ 16 c.if-queue-gt16.false, v.invariant, g) refl

pub returns : goal.returns
unfolding queue_good
returns c =
    let s = c.args.sizes.setup in
    let v = c.loop-event in
    rw (le-leb _ 16 c.if-queue-gt16.false, v.invariant, good_none (admissible s.rate s.fade) v.last.bits (pending c.args.queue.now) v.event-index c.loop-event-test.false) refl
