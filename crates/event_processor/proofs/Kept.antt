-- What every call keeps: the events that wait are in order, whatever holds of each of them and of the new one holds of each, and at most 16 stay at most 16.
-- The idea: a refusal changes nothing, and otherwise what waits is a list of which it is known already. Assumes nothing.
use Prim.Native.Nat.{◌≤◌}
use mathlib.Core.Path.{◌≡◌, refl}
use mathlib.Core.Bool.{Bool, true, false}
use native.Mathlib.Omega.{arith}
use lib.IntN.{ℤ}
use lib.ListN.{length}
use Rattle.sampler_event.specs.declared.Event.{Event}
use Rattle.event_processor.specs.declared.Queue.{Queue}
use Rattle.std.specs.Prelude.{Option, None, Some}
use Rattle.event_processor.specs.Queue.{QueueAnswer, first_before, in_order, each, pending, queue_full, received, taken_before}
use Rattle.event_processor.proofs.Insert.{enter_order, enter_each}
use Rattle.event_processor.proofs.Front.{rest_order, rest_each, taken_none, taken_due}
use Rattle.event_processor.proofs.Pending.{received_cases, received_full, pending_received, pending_taken}

-- ---- receive

module _ (e : Event) (q : Queue) where
  pub received_order : in_order (pending q) ≡ true → in_order (pending (received e q).queue) ≡ true
  received_order h = go (queue_full e q) refl
    where
      go : (b : Bool) → queue_full e q ≡ b → in_order (pending (received e q).queue) ≡ true
      go true t = rw (received_full e q t) h
      go false t = rw (pending_received e q t) (enter_order e (pending q) h)

  pub received_each : (P : Event → Bool) → P e ≡ true → each P (pending q) ≡ true → each P (pending (received e q).queue) ≡ true
  received_each P p h = go (queue_full e q) refl
    where
      go : (b : Bool) → queue_full e q ≡ b → each P (pending (received e q).queue) ≡ true
      go true t = rw (received_full e q t) h
      go false t = rw (pending_received e q t) (enter_each P e (pending q) p h)

  pub received_count : q.count ≤ 16 → (received e q).queue.count ≤ 16
  received_count h = received_cases e q (λ (a : QueueAnswer). a.queue.count ≤ 16) h (omega arith) (λ k. omega arith)

-- ---- next_event_before

module _ (end : ℤ) (q : Queue) where
  pub taken_order : q.count ≤ length q.events → in_order (pending q) ≡ true → in_order (pending (taken_before end q).queue) ≡ true
  taken_order k h = go (first_before end (pending q)) refl
    where
      go : (f : Option Event) → first_before end (pending q) ≡ f → in_order (pending (taken_before end q).queue) ≡ true
      go None t = rw (taken_none end q t) h
      go (Some e) t = rw (pending_taken end q e k t) (rest_order (pending q) h)

  pub taken_each : (P : Event → Bool) → q.count ≤ length q.events → each P (pending q) ≡ true → each P (pending (taken_before end q).queue) ≡ true
  taken_each P k h = go (first_before end (pending q)) refl
    where
      go : (f : Option Event) → first_before end (pending q) ≡ f → each P (pending (taken_before end q).queue) ≡ true
      go None t = rw (taken_none end q t) h
      go (Some e) t = rw (pending_taken end q e k t) (rest_each P (pending q) h)

  pub taken_count : (taken_before end q).queue.count ≤ q.count
  taken_count = go (first_before end (pending q)) refl
    where
      go : (f : Option Event) → first_before end (pending q) ≡ f → (taken_before end q).queue.count ≤ q.count
      go None t = rw (taken_none end q t) (omega arith)
      go (Some e) t = rw (taken_due end q e t) (omega arith)
