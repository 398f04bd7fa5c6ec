-- What waits after each call is what the list's definitions say of what waited before it.
-- The idea: the events that wait are the array's first `count`, and what a call leaves there is cut at the new count. Assumes nothing.
use Prim.Native.Nat.{ℕ, zero, suc, ◌+◌, ◌-◌, ◌≤◌, ◌<◌}
use mathlib.Core.Path.{◌≡◌, refl, ap, ◌∙◌}
use mathlib.Core.Bool.{Bool, true, false, ◌&&◌, not, cond}
use mathlib.Core.List.{List, [], ◌∷◌, ◌++◌, append-nil}
use native.Mathlib.Nat.{le_of_suc-le-suc, not-suc-le-zero}
use native.Mathlib.Omega.{arith}
use borrow.Author.Tests.{leb-true, leb-false}
use lib.Dec.{leb}
use lib.IntN.{ℤ}
use lib.ListN.{length, take, drop, length-take, drop_of_length-le}
use lib.Seq.{take_all, take_at, take-append-le, length-take-le}
use Rattle.sampler_event.specs.Events.{blank_event, is_cancel_all}
use Rattle.sampler_event.specs.declared.Event.{Event}
use Rattle.event_processor.specs.declared.Queue.{Queue}
use Rattle.std.specs.Prelude.{Some}
use Rattle.event_processor.specs.Queue.{QueueAnswer, insert, enter, first_before, pending, empty_queue, entered, without, queue_full, received, taken_before}
use Rattle.event_processor.proofs.Insert.{insert_length}
use Rattle.event_processor.proofs.Front.{taken_due}

pub pending_entered : (e : Event) (q : Queue) → pending (entered e q) ≡ insert e (pending q)
pending_entered e q = go (leb q.count (length q.events)) refl
  where
    go : (b : Bool) → leb q.count (length q.events) ≡ b → pending (entered e q) ≡ insert e (pending q)
    go true t =
        let l = length-take-le q.count q.events (leb-true _ _ t) in
        let m = insert_length e (pending q) in
        take_at (insert e (pending q)) (drop (q.count + 1) q.events) (q.count + 1) (omega arith)
    go false t =
        let h = leb-false q.count (length q.events) t in
        let l = length-take q.count q.events in
        let m = insert_length e (pending q) in
        rw (drop_of_length-le q.events {i = q.count + 1} (omega arith), append-nil (insert e (pending q))) (take_all (q.count + 1) (insert e (pending q)) (omega arith))

-- ---- receive

-- one of three: the refusal, the event alone, and the event among those that wait
pub received_cases : (e : Event) (q : Queue) (P : QueueAnswer → Type 0) → P (record { number = 9; queue = q }) → P (record { number = 0; queue = entered e empty_queue })
    → (q.count < 16 → P (record { number = 0; queue = entered e q })) → P (received e q)
unfolding received
received_cases e q P full alone among = go (leb 16 q.count) (is_cancel_all e.kind) refl
  where
    go : (b c : Bool) → leb 16 q.count ≡ b → P (cond (b && not c) (record { number = 9; queue = q }) (record { number = 0; queue = entered e (cond c empty_queue q) }))
    go true true t = alone
    go true false t = full
    go false true t = alone
    go false false t = among (leb-false 16 q.count t)

-- 9 exactly when the queue is full for the event
pub received_number : (e : Event) (q : Queue) → (received e q).number ≡ cond (queue_full e q) 9 0
unfolding received
received_number e q = go (queue_full e q)
  where
    go : (b : Bool) → (cond {A = QueueAnswer} b (record { number = 9; queue = q }) (record { number = 0; queue = entered e (cond (is_cancel_all e.kind) empty_queue q) })).number ≡ cond b 9 0
    go true = refl
    go false = refl

-- then the queue is as it was
pub received_full : (e : Event) (q : Queue) → queue_full e q ≡ true → received e q ≡ record { number = 9; queue = q }
unfolding received
received_full e q h = rw h refl

-- and otherwise the event has entered
pub pending_received : (e : Event) (q : Queue) → queue_full e q ≡ false → pending (received e q).queue ≡ enter e (pending q)
unfolding received
pending_received e q h = rw h (pending_entered e (cond (is_cancel_all e.kind) empty_queue q) ∙ ap (insert e) (cleared (is_cancel_all e.kind)))
  where
    cleared : (b : Bool) → pending (cond b empty_queue q) ≡ cond b [] (pending q)
    cleared true = refl
    cleared false = refl

-- ---- next_event_before

pub pending_without : (q : Queue) → q.count ≤ length q.events → pending (without q) ≡ drop 1 (pending q)
pending_without q h = go q.count q.events h
  where
    go : (n : ℕ) (es : List Event) → n ≤ length es → take (n - 1) (drop 1 es ++ blank_event ∷ []) ≡ drop 1 (take n es)
    go zero es h = refl
    go (suc n) [] h = absurd (not-suc-le-zero h)
    go (suc n) (x ∷ es) h =
        let k : suc n - 1 ≡ n = omega arith in
        rw k (take-append-le n es (blank_event ∷ []) (le_of_suc-le-suc h))

-- the first event where it is due leaves the rest
pub pending_taken : (end : ℤ) (q : Queue) (e : Event) → q.count ≤ length q.events → first_before end (pending q) ≡ Some e → pending (taken_before end q).queue ≡ drop 1 (pending q)
pending_taken end q e h f = rw (taken_due end q e f) (pending_without q h)
