-- The events that a block leaves: those not below its end wait on, in order, each admissible.
-- The idea: of events in order those below the end come first, and each is taken by `without`. Assumes nothing.
use Prim.Native.Nat.{◌≤◌}
use mathlib.Core.Path.{◌≡◌, refl, sym, ap, ◌∙◌, subst₂}
use mathlib.Core.Bool.{Bool, true, false, not, cond, and-eq-true_iff}
use mathlib.Core.List.{List, [], ◌∷◌}
use native.Mathlib.Nat.{le_trans, le_of_eq, sub-le}
use borrow.Author.Tests.{not-true}
use lib.IntN.{ℤ}
use lib.ListN.{length, drop}
use lib.Signed.{lt_z}
use Rattle.sampler_event.specs.declared.Event.{Event}
use Rattle.sampler_event.specs.Limits.{admissible}
use Rattle.event_processor.specs.declared.Queue.{Queue}
use Rattle.std.specs.Prelude.{Option, None, Some}
use Rattle.event_processor.specs.Queue.{pending, without, in_order, each}
use Rattle.event_processor.proofs.Front.{rest_order, rest_each, none_below}
use Rattle.event_processor.proofs.Pending.{pending_without}
use Rattle.event_processor.proofs.Places.{without_places}
use Rattle.sampler_player.specs.declared.Setup.{Setup}
use Rattle.sampler_processor.specs.Numbers.{queue_good}
use Rattle.sampler_processor.specs.AtFrames.{below, not_below, without_each}
use Rattle.sampler_processor.proofs.Legs.{queued, queue_whole}

-- ---- where the first of them is not below the end, none is

module _ (end : ℤ) where
  none_of : (l : List Event) → each (λ (e : Event). not (lt_z e.time.bits end)) l ≡ true → (below end l ≡ []) × (not_below end l ≡ l)
  none_of [] h = (refl, refl)
  none_of (e ∷ es) h =
      let p = (and-eq-true_iff (not (lt_z e.time.bits end)) (each (λ (x : Event). not (lt_z x.time.bits end)) es)).0 h in
      let t = not-true (lt_z e.time.bits end) p.0 in
      let i = none_of es p.1 in
      (rw t i.0, rw t (ap (λ (l : List Event). e ∷ l) i.1))

  pub rest_above : (e : Event) (es : List Event) → in_order (e ∷ es) ≡ true → lt_z e.time.bits end ≡ false → (below end (e ∷ es) ≡ []) × (not_below end (e ∷ es) ≡ e ∷ es)
  rest_above e es o h = none_of (e ∷ es) (none_below end (e ∷ es) o (ap (λ (b : Bool). cond {A = Option Event} b (Some e) None) h))

  -- and of those after it
  pub rest_none : (e : Event) (es : List Event) → in_order (e ∷ es) ≡ true → lt_z e.time.bits end ≡ false → below end es ≡ []
  rest_none e es o h = ap (λ (x : Bool). cond x (e ∷ below end es) (below end es)) (sym h) ∙ (rest_above e es o h).0

-- ---- what waits on

-- these events wait, in order, each admissible, in an array of 16
abbrev pub Waits : Setup → List Event → Queue → Type 0
Waits s l q = (pending q ≡ l) × (q.count ≤ 16) × (length q.events ≡ 16) × (each (admissible s.rate s.fade) l ≡ true) × (in_order l ≡ true)

module _ (s : Setup) where
  pub waits : (q : Queue) → queue_good s q ≡ true → length q.events ≡ 16 → Waits s (pending q) q
  waits q g places = let w = queued s q g in (refl, w.few, places, w.each_one, w.ordered)

  pub waits_good : (l : List Event) (q : Queue) → Waits s l q → queue_good s q ≡ true
  waits_good l q w =
      queue_whole s q
      (record {
        few = w.1;
        each_one = ap (each (admissible s.rate s.fade)) w.0 ∙ w.3;
        ordered = ap in_order w.0 ∙ w.4;
      })

  less_one : (e : Event) (es : List Event) (q : Queue) → Waits s (e ∷ es) q → Waits s es (without q)
  less_one e es q w = (
    pending_without q (le_trans w.1 (le_of_eq (sym w.2))) ∙ ap (drop 1) w.0,
    le_trans (sub-le q.count 1) w.1,
    without_places q w.2,
    rest_each (admissible s.rate s.fade) (e ∷ es) w.3,
    rest_order (e ∷ es) w.4,
  )

  pub left_waits : (end : ℤ) (l : List Event) (q : Queue) → Waits s l q → Waits s (not_below end l) (without_each (below end l) q)
  left_waits end [] q w = w
  left_waits end (e ∷ es) q w = go (lt_z e.time.bits end) refl (left_waits end es (without q) (less_one e es q w))
    where
      go : (x : Bool) → lt_z e.time.bits end ≡ x → Waits s (not_below end es) (without_each (below end es) (without q)) → Waits s (not_below end (e ∷ es)) (without_each (below end (e ∷ es)) q)
      go true h ih = rw h ih
      go false h ih = let i = rest_above end e es w.4 h in subst₂ (λ (a d : List Event). Waits s a (without_each d q)) (sym i.1) (sym i.0) w
