-- What a call hands back by its number: "A refusal returns the old leg (making: a blank leg ..", and what making hands back otherwise is sound.
-- The idea: each answer is the definition's under the tests that led to its number, and with 9 the queue is as it was. Assumes nothing.
use Prim.Native.Nat.{ℕ, zero, suc}
use mathlib.Core.Path.{◌≡◌, refl, sym, ap, ◌∙◌}
use mathlib.Core.Bool.{Bool, true, false, cond}
use mathlib.Core.List.{List}
use native.Mathlib.Omega.{arith}
use lib.Dec.{eqb}
use Rattle.sampler_event.specs.declared.Event.{Event}
use Rattle.sampler_event.specs.Command.{EventAnswer, command_answer}
use Rattle.laws.specs.Rules.{first_broken}
use Rattle.event_processor.specs.Queue.{QueueAnswer, queue_full, received}
use Rattle.event_processor.proofs.Pending.{received_number, received_full}
use Rattle.sampler_player.specs.declared.Setup.{Setup}
use Rattle.sampler_processor.specs.declared.Leg.{Leg}
use Rattle.sampler_processor.specs.Numbers.{sound, make_order}
use Rattle.sampler_processor.specs.Calls.{leg_answer, blank, made_by, make, entered_in, commanded, submit}
use Rattle.sampler_processor.proofs.Sizes.{sizes_taken}
use Rattle.sampler_processor.proofs.Legs.{fresh_sound}

-- ---- making

pub make_refused : (s : Setup) → ((make s).number ≡ 0 → ⊥) → (make s).leg ≡ blank
unfolding make
make_refused s = go (first_broken (make_order s))
  where
    go : (n : ℕ) → ((made_by n s).number ≡ 0 → ⊥) → (made_by n s).leg ≡ blank
    go zero z = absurd (z refl)
    go (suc n) z = refl

pub make_sound : (s : Setup) → (make s).number ≡ 0 → sound (make s).leg ≡ true
unfolding make
make_sound s = go (first_broken (make_order s)) refl
  where
    go : (n : ℕ) → first_broken (make_order s) ≡ n → (made_by n s).number ≡ 0 → sound (made_by n s).leg ≡ true
    go zero e z = fresh_sound s (sizes_taken s (sym e))
    go (suc n) e z = absurd (omega arith)

-- ---- a command

module _ (l : Leg) where
  pub entered_refused : (e : Event) → ((entered_in l (received e l.queue)).number ≡ 0 → ⊥) → (entered_in l (received e l.queue)).leg ≡ l
  entered_refused e z = go (queue_full e l.queue) refl
    where
      go : (b : Bool) → queue_full e l.queue ≡ b → (entered_in l (received e l.queue)).leg ≡ l
      go true t = ap (λ (a : QueueAnswer). (entered_in l a).leg) (received_full e l.queue t)
      go false t = absurd (z (received_number e l.queue ∙ ap (λ (b : Bool). cond b 9 0) t))

  commanded_refused : (a : EventAnswer) → ((commanded l a).number ≡ 0 → ⊥) → (commanded l a).leg ≡ l
  commanded_refused a = go (eqb a.number 0)
    where
      go : (b : Bool) → ((cond b (entered_in l (received a.event l.queue)) (leg_answer a.number l)).number ≡ 0 → ⊥)
          → (cond b (entered_in l (received a.event l.queue)) (leg_answer a.number l)).leg ≡ l
      go true z = entered_refused a.event z
      go false z = refl

  pub submit_refused : (s : List ℕ) → ((submit l s).number ≡ 0 → ⊥) → (submit l s).leg ≡ l
  unfolding submit
  submit_refused s = go (sound l)
    where
      go : (b : Bool) → ((cond b (commanded l (command_answer l.setup.rate l.setup.fade s)) (leg_answer 14 l)).number ≡ 0 → ⊥)
          → (cond b (commanded l (command_answer l.setup.rate l.setup.fade s)) (leg_answer 14 l)).leg ≡ l
      go true z = commanded_refused (command_answer l.setup.rate l.setup.fade s) z
      go false z = refl
