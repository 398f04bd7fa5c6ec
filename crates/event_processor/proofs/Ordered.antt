-- Admissible events in order are at natural numbers that do not fall.
-- The idea: an admissible event's time passes 10, so it is a natural number, and the order of such times is theirs. Assumes nothing.
use Prim.Native.Nat.{ℕ, ◌≤◌}
use mathlib.Core.Path.{◌≡◌, subst}
use mathlib.Core.Bool.{true, and-eq-true_iff}
use mathlib.Core.List.{List, [], ◌∷◌}
use native.Mathlib.Omega.{arith}
use borrow.Author.Tests.{leb-true}
use lib.IntN.{ℤ, pos, nat_abs}
use lib.Signed.{le_z}
use Rattle.sampler_event.specs.declared.Event.{Event}
use Rattle.sampler_event.specs.Limits.{admissible}
use Rattle.sampler_event.proofs.Admissible.{passed, time_up}
use Rattle.event_processor.specs.Queue.{in_order_from, in_order, each}

-- events in order, none before lo
abbrev pub Ordered : ℕ → List Event → Type 0
Ordered lo [] = Unit {0}
Ordered lo (e ∷ es) = (t : ℕ) × (e.time.bits ≡ pos t) × (lo ≤ t) × Ordered t es

module _ (R F : ℕ) where
  ordered_from : (lo : ℕ) (l : List Event) → each (admissible R F) l ≡ true → in_order_from (pos lo) l ≡ true → Ordered lo l
  ordered_from lo [] h o = tt
  ordered_from lo (e ∷ es) h o =
      let a = (and-eq-true_iff (admissible R F e) (each (admissible R F) es)).0 h in
      let u = time_up e (passed R F e a.0).time in
      let b = (and-eq-true_iff (le_z (pos lo) e.time.bits) (in_order_from e.time.bits es)).0 o in (
        nat_abs e.time.bits,
        u.is,
        leb-true lo (nat_abs e.time.bits) (subst (λ (z : ℤ). le_z (pos lo) z ≡ true) u.is b.0),
        ordered_from (nat_abs e.time.bits) es a.1 (subst (λ (z : ℤ). in_order_from z es ≡ true) u.is b.1),
      )

  pub ordered : (l : List Event) → each (admissible R F) l ≡ true → in_order l ≡ true → Ordered 0 l
  ordered [] h o = tt
  ordered (e ∷ es) h o =
      let a = (and-eq-true_iff (admissible R F e) (each (admissible R F) es)).0 h in
      let u = time_up e (passed R F e a.0).time in
      (nat_abs e.time.bits, u.is, omega arith, ordered_from (nat_abs e.time.bits) es a.1 (subst (λ (z : ℤ). in_order_from z es ≡ true) u.is o))
