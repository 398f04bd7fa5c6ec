-- The first of the events that wait: what is answered with it and without it, and what holds of it and of the rest.
-- The idea: what is answered hangs on `first_before` alone, and in an ordered list nothing is before the first. Assumes nothing.
use Prim.Native.Nat.{ℕ, zero, suc, ◌-◌, ◌<◌}
use mathlib.Core.Path.{◌≡◌, refl, ap, sym, ◌∙◌}
use mathlib.Core.Bool.{Bool, true, false, not, cond, and-eq-true_iff}
use mathlib.Core.List.{List, [], ◌∷◌}
use native.Mathlib.Nat.{lt_irrefl}
use native.Mathlib.Omega.{arith}
use lib.IntN.{ℤ}
use lib.ListN.{length, take, drop, get_or}
use lib.Signed.{lt_z, le_z}
use Rattle.sampler_event.specs.declared.Event.{Event}
use Rattle.event_processor.specs.declared.Queue.{Queue}
use Rattle.event_processor.specs.declared.Taken.{Taken}
use Rattle.std.proofs.lemmas.Int.{ints}
use Rattle.std.specs.Prelude.{Option, None, Some}
use Rattle.event_processor.specs.Queue.{first_before, in_order_from, in_order, each, pending, without, leave, taken_before}

-- ---- the answer

-- as the array has it
pub first_at : (end : ℤ) (es : List Event) (n : ℕ) (z : Event) → 0 < n → 0 < length es
    → first_before end (take n es) ≡ cond (lt_z (get_or es 0 z).time.bits end) (Some (get_or es 0 z)) None
first_at end es zero z p h = absurd (lt_irrefl 0 p)
first_at end [] (suc n) z p h = absurd (lt_irrefl 0 h)
first_at end (x ∷ es) (suc n) z p h = refl

module _ (end : ℤ) (q : Queue) where
  answer : Option Event → Taken
  answer f = record { first = f; queue = leave f q }

  pub taken_none : first_before end (pending q) ≡ None → taken_before end q ≡ record { first = None; queue = q }
  unfolding taken_before answer
  taken_none h = ap answer h

  pub taken_due : (e : Event) → first_before end (pending q) ≡ Some e → taken_before end q ≡ record { first = Some e; queue = without q }
  unfolding taken_before answer
  taken_due e h = ap answer h

-- where one is due there is one fewer without it
due_some : (end : ℤ) (es : List Event) (n : ℕ) (e : Event) → first_before end (take n es) ≡ Some e → n - 1 < n
due_some end es zero e f = let z : ◌≡◌ {A = ℕ} 0 1 = cc in absurd (omega arith)
due_some end es (suc n) e f = omega arith

pub due_less : (end : ℤ) (q : Queue) (e : Event) → first_before end (pending q) ≡ Some e → (without q).count < q.count
due_less end q e f = due_some end q.events q.count e f

-- ---- the rest, and the first itself

pub rest_order : (l : List Event) → in_order l ≡ true → in_order (drop 1 l) ≡ true
rest_order [] h = refl
rest_order (x ∷ []) h = refl
rest_order (x ∷ y ∷ ys) h = ((and-eq-true_iff (le_z x.time.bits y.time.bits) (in_order_from y.time.bits ys)).0 h).1

pub rest_each : (P : Event → Bool) (l : List Event) → each P l ≡ true → each P (drop 1 l) ≡ true
rest_each P [] h = refl
rest_each P (x ∷ xs) h = ((and-eq-true_iff (P x) (each P xs)).0 h).1

-- what holds of each event holds of the one taken
pub first_each : (P : Event → Bool) (end : ℤ) (l : List Event) (e : Event) → first_before end l ≡ Some e → each P l ≡ true → P e ≡ true
first_each P end [] e f h = cc
first_each P end (x ∷ xs) e f h = go (lt_z x.time.bits end) f
  where
    go : (b : Bool) → cond b (Some x) None ≡ Some e → P e ≡ true
    go true g = let q : x ≡ e = cc in ap P (sym q) ∙ ((and-eq-true_iff (P x) (each P xs)).0 h).0
    go false g = cc

pub first_below : (end : ℤ) (l : List Event) (e : Event) → first_before end l ≡ Some e → lt_z e.time.bits end ≡ true
first_below end [] e f = cc
first_below end (x ∷ xs) e f = go (lt_z x.time.bits end) refl f
  where
    go : (b : Bool) → lt_z x.time.bits end ≡ b → cond b (Some x) None ≡ Some e → lt_z e.time.bits end ≡ true
    go true t g = let q : x ≡ e = cc in ap (λ (y : Event). lt_z y.time.bits end) (sym q) ∙ t
    go false t g = cc

-- ---- where nothing is due, nothing that waits in order is below the end

on : (a b c : ℤ) → le_z a b ≡ true → lt_z a c ≡ false → lt_z b c ≡ false
on a b c l n = grind (arith, ints)

none_from : (end t : ℤ) (l : List Event) → lt_z t end ≡ false → in_order_from t l ≡ true → each (λ (e : Event). not (lt_z e.time.bits end)) l ≡ true
none_from end t [] k h = refl
none_from end t (x ∷ xs) k h =
    let p = (and-eq-true_iff (le_z t x.time.bits) (in_order_from x.time.bits xs)).0 h in
    let w = on t x.time.bits end p.0 k in
    rw (w, none_from end x.time.bits xs w p.1) refl

pub none_below : (end : ℤ) (l : List Event) → in_order l ≡ true → first_before end l ≡ None → each (λ (e : Event). not (lt_z e.time.bits end)) l ≡ true
none_below end [] h f = refl
none_below end (x ∷ xs) h f = go (lt_z x.time.bits end) refl f
  where
    go : (b : Bool) → lt_z x.time.bits end ≡ b → cond b (Some x) None ≡ None → each (λ (e : Event). not (lt_z e.time.bits end)) (x ∷ xs) ≡ true
    go true t g = cc
    go false t g = rw (t, none_from end x.time.bits xs t h) refl
