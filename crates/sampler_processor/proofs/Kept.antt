-- "Every leg handed back by a call that was given a sound one is sound": of a command.
-- The idea: a command changes the queue alone, `receive` keeps what a queue must be, and the event that enters is admissible. Assumes nothing.
use Prim.Native.Nat.{ℕ}
use mathlib.Core.Path.{◌≡◌, refl}
use mathlib.Core.Bool.{Bool, true, false, cond}
use mathlib.Core.List.{List}
use borrow.Author.Tests.{eqb-true}
use lib.Dec.{eqb}
use Rattle.sampler_event.specs.declared.Event.{Event}
use Rattle.sampler_event.specs.Command.{EventAnswer, command_answer}
use Rattle.sampler_event.specs.Limits.{admissible}
use Rattle.sampler_event.proofs.Admissible.{taken_admissible}
use Rattle.event_processor.specs.Queue.{received}
use Rattle.event_processor.proofs.Kept.{received_order, received_each, received_count}
use Rattle.sampler_processor.specs.declared.Leg.{Leg}
use Rattle.sampler_processor.specs.Numbers.{sound}
use Rattle.sampler_processor.specs.Calls.{leg_answer, entered_in, commanded, submit}
use Rattle.sampler_processor.proofs.Legs.{parts, whole, queued, queue_whole}

module _ (l : Leg) (h : sound l ≡ true) where
  entered_sound : (e : Event) → admissible l.setup.rate l.setup.fade e ≡ true → sound (entered_in l (received e l.queue)).leg ≡ true
  entered_sound e a =
      let p = parts l h in
      let k = queued l.setup l.queue p.queue in
      let q = (received e l.queue).queue in
      whole (record { setup = l.setup; player = l.player; queue = q })
      (record {
        sizes = p.sizes;
        player = p.player;
        queue =
            queue_whole l.setup q
            (record {
              few = received_count e l.queue k.few;
              each_one = received_each e l.queue (admissible l.setup.rate l.setup.fade) a k.each_one;
              ordered = received_order e l.queue k.ordered;
            });
      })

  commanded_sound : (a : EventAnswer) → (a.number ≡ 0 → admissible l.setup.rate l.setup.fade a.event ≡ true) → sound (commanded l a).leg ≡ true
  commanded_sound a f = go (eqb a.number 0) refl
    where
      go : (b : Bool) → eqb a.number 0 ≡ b → sound (cond b (entered_in l (received a.event l.queue)) (leg_answer a.number l)).leg ≡ true
      go true t = entered_sound a.event (f (eqb-true a.number 0 t))
      go false t = h

  pub submit_sound : (s : List ℕ) → sound (submit l s).leg ≡ true
  unfolding submit
  submit_sound s = rw h (commanded_sound (command_answer l.setup.rate l.setup.fade s) (taken_admissible l.setup.rate l.setup.fade s))
