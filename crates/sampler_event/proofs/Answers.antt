-- How a command's answer follows from what its record is read as, and what it says of it.
-- The idea: an answer to the reading says by its number whether there is an event. Assumes nothing.
use Prim.Native.Nat.{ℕ}
use mathlib.Core.Path.{◌≡◌, refl, ap}
use mathlib.Core.Bool.{Bool, true, false, cond}
use mathlib.Core.Option.{Option, none, some}
use native.Mathlib.Omega.{arith}
use borrow.Author.Tests.{eqb-true, eqb-false, ne_eqb}
use lib.Dec.{eqb}
use Rattle.std.specs.Prelude.{Result, Ok, Err, is_ok}
use Rattle.laws.specs.declared.Refusal.{Refusal}
use Rattle.laws.proofs.Refusals.{not_zero}
use Rattle.laws.specs.Rules.{number_of, number_in}
use Rattle.sampler_event.specs.declared.Event.{Event}
use Rattle.sampler_event.specs.Limits.{event_fault}
use Rattle.sampler_event.specs.Command.{EventAnswer, told, taken_event, refused_event, asked, judged}

-- ---- a refusal has a number, and nothing else does

pub number_ok : {A : Type 0} (r : Result A Refusal) → eqb (number_in r) 0 ≡ is_ok r
number_ok (Ok x) = refl
number_ok (Err e) = ne_eqb (number_of e) 0 (not_zero e)

-- ---- from the reading to the answer

numbered : {a b : EventAnswer} → a ≡ b → a.number ≡ b.number
numbered e = ap (λ (x : EventAnswer). x.number) e

same : {a b : EventAnswer} → a ≡ b → a.event ≡ b.event
same e = ap (λ (x : EventAnswer). x.event) e

module _ (R F : ℕ) where
  -- 13
  pub stopped : (o : Option Event) (e : Refusal) → told (Err e) ≡ asked o → told (Err e) ≡ judged R F o
  stopped none e h = h
  stopped (some x) e h = absurd (not_zero e (numbered h))

  -- no refusal
  pub accepted : (o : Option Event) (x : Event) → told (Ok x) ≡ asked o → 0 ≡ event_fault R F x → told (Ok x) ≡ judged R F o
  accepted none x h f = absurd (omega (arith, numbered h))
  accepted (some y) x h f = rw (← same h, ← f) refl

  -- 10, 11, 12
  pub rejected : (o : Option Event) (x : Event) (e : Refusal) → told (Ok x) ≡ asked o → number_of e ≡ event_fault R F x → told (Err e) ≡ judged R F o
  rejected none x e h f = absurd (omega (arith, numbered h))
  rejected (some y) x e h f = rw (← same h, ← f, ne_eqb (number_of e) 0 (not_zero e)) refl

-- for `command`
pub ruleset answering = (stopped, accepted, rejected)

-- ---- and back: what is taken was read, and nothing refuses it
pub taken : (R F : ℕ) (o : Option Event) → (judged R F o).number ≡ 0 → (o ≡ some (judged R F o).event) × (event_fault R F (judged R F o).event ≡ 0)
taken R F none e = absurd (omega (arith, e))
taken R F (some x) e = go (eqb n 0) (eqb-true n 0) (eqb-false n 0) e
  where
    n : ℕ
    n = event_fault R F x

    go : (t : Bool) → (t ≡ true → n ≡ 0) → (t ≡ false → n ≡ 0 → ⊥) → (cond t (taken_event x) (refused_event n)).number ≡ 0
        → (some x ≡ some (cond t (taken_event x) (refused_event n)).event) × (event_fault R F (cond t (taken_event x) (refused_event n)).event ≡ 0)
    go true f g z = (refl, f refl)
    go false f g z = absurd (g refl z)
