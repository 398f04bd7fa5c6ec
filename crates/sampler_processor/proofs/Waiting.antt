-- "each event admissible, in order", along the events that wait as the test goes: of any test on an event.
-- The idea: what is left from i on, with the time before it, is all that the rest of the loop decides. Assumes nothing.
use Prim.Native.Nat.{ℕ, ◌≤◌, ◌<◌}
use mathlib.Core.Path.{◌≡◌, refl, subst}
use mathlib.Core.Bool.{Bool, true, false, ◌&&◌, not, and-false}
use mathlib.Core.List.{List}
use lib.Dec.{T}
use lib.IntN.{ℤ}
use lib.ListN.{length, drop, get_or, drop_of_length-le}
use lib.Seq.{drop-cons}
use lib.Signed.{lt_z, le_z, le_z_yes, lt_z_yes, lt_z_no, clash_ℤ}
use Rattle.sampler_event.specs.declared.Event.{Event}
use Rattle.event_processor.specs.Queue.{in_order_from, each}
use Rattle.laws.proofs.Tests.{yes, no}

-- P of each event, and none earlier than t or than the one before it
abbrev pub good : (Event → Bool) → ℤ → List Event → Bool
good P t l = each P l && in_order_from t l

-- ---- an event

-- none is earlier
le_not_lt : (a b : ℤ) → le_z a b ≡ not (lt_z b a)
le_not_lt a b = go (lt_z b a) (le_z a b) refl refl
  where
    go : (x y : Bool) → lt_z b a ≡ x → le_z a b ≡ y → y ≡ not x
    go true true t l = clash_ℤ (lt_z_yes {a = b} {b = a} (yes t)) (le_z_yes {a = a} {b = b} (yes l))
    go true false t l = refl
    go false true t l = refl
    go false false t l = absurd (subst T l (lt_z_no {a = b} {b = a} (no t)).le)

module _ (P : Event → Bool) (t : ℤ) (l : List Event) (i : ℕ) (z : Event) (h : i < length l) where
  pub good_bad : P (get_or l i z) ≡ false → good P t (drop i l) ≡ false
  good_bad e = rw (drop-cons l i z h, e) refl

  pub good_early : lt_z (get_or l i z).time.bits t ≡ true → good P t (drop i l) ≡ false
  good_early e = rw (drop-cons l i z h, le_not_lt t (get_or l i z).time.bits, e, and-false) refl

-- ---- none left

pub good_none : (P : Event → Bool) (t : ℤ) (l : List Event) (i : ℕ) → length l ≤ i → good P t (drop i l) ≡ true
good_none P t l i h = rw (drop_of_length-le l {i = i} h) refl
