-- What making and a command answer, by what their parts answered.
-- The idea: 0 is no refusal and every other number is one. Assumes nothing.
use Prim.Native.Nat.{ℕ, zero, suc}
use mathlib.Core.Path.{◌≡◌, refl, ap}
use borrow.Author.Tests.{eq-eqb, ne_eqb}
use Rattle.laws.specs.declared.Refusal.{Refusal}
use Rattle.laws.specs.Rules.{number_of}
use Rattle.sampler_event.specs.Command.{EventAnswer}
use Rattle.event_processor.specs.Queue.{QueueAnswer, received}
use Rattle.sampler_player.specs.declared.Setup.{Setup}
use Rattle.sampler_processor.specs.declared.Leg.{Leg}
use Rattle.laws.proofs.Refusals.{not_zero}
use Rattle.sampler_processor.specs.Calls.{leg_answer, blank, made_by, entered_in, commanded}

-- ---- making

pub made-refused : (r : Refusal) (s : Setup) (k : ℕ) → number_of r ≡ k → leg_answer (number_of r) blank ≡ made_by k s
made-refused r s zero e = absurd (not_zero r e)
made-refused r s (suc k) e = ap (λ (i : ℕ). leg_answer i blank) e

-- ---- a command: a is what the record is answered with

module _ (l : Leg) (a : EventAnswer) where
  pub commanded_refused : (a.number ≡ 0 → ⊥) → leg_answer a.number l ≡ commanded l a
  commanded_refused z = rw (ne_eqb a.number 0 z) refl

  pub commanded-entered : (q : QueueAnswer) → q ≡ received a.event l.queue → a.number ≡ 0 → entered_in l q ≡ commanded l a
  commanded-entered q e z = rw (eq-eqb a.number 0 z) (ap (entered_in l) e)
