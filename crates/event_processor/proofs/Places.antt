-- Sixteen places stay sixteen, and where those that are not used are blank they stay blank: a queue is then the list of what waits and nothing more.
-- The idea: an event more takes the first blank's place, an event less puts a blank at the end. Assumes nothing.
use Prim.Native.Nat.{suc, ◌+◌, ◌-◌, ◌<◌}
use mathlib.Core.Path.{◌≡◌, refl, sym, ◌∙◌}
use mathlib.Core.Bool.{Bool, true, false, ◌&&◌, not, cond, and-true}
use mathlib.Core.List.{List, [], ◌∷◌, ◌++◌, append_assoc}
use native.Mathlib.Omega.{arith}
use native.Mathlib.Numerals.{add-one}
use borrow.Author.Tests.{leb-false}
use lib.Dec.{leb, lit≤}
use lib.IntN.{ℤ}
use lib.ListN.{length, drop, replicate, length-append, length-take, length-drop, replicate-append-replicate}
use lib.Seq.{take_at, drop-append-add}
use Rattle.sampler_event.specs.Events.{blank_event, is_cancel_all}
use Rattle.sampler_event.specs.declared.Event.{Event}
use Rattle.event_processor.specs.declared.Queue.{Queue}
use Rattle.std.specs.Prelude.{Option, None, Some}
use Rattle.event_processor.specs.Queue.{QueueAnswer, insert, enter, first_before, pending, empty_queue, entered, without, queue_full, received, taken_before}
use Rattle.event_processor.proofs.Insert.{insert_length}
use Rattle.event_processor.proofs.Front.{taken_none, taken_due}
use Rattle.event_processor.proofs.Pending.{received_cases}

-- ---- sixteen

entered_places : (e : Event) (q : Queue) → q.count < length q.events → length (entered e q).events ≡ length q.events
entered_places e q h =
    let i = insert_length e (pending q) in
    let t = length-take q.count q.events in
    let d = length-drop (q.count + 1) q.events in
    length-append (insert e (pending q)) (drop (q.count + 1) q.events) ∙ omega arith

pub received_places : (e : Event) (q : Queue) → length q.events ≡ 16 → length (received e q).queue.events ≡ 16
received_places e q h = received_cases e q (λ (a : QueueAnswer). length a.queue.events ≡ 16) h refl (λ k. entered_places e q (omega arith) ∙ h)

pub without_places : (q : Queue) → length q.events ≡ 16 → length (without q).events ≡ 16
without_places q h = let d = length-drop 1 q.events in length-append (drop 1 q.events) (blank_event ∷ []) ∙ omega arith

pub taken_places : (end : ℤ) (q : Queue) → length q.events ≡ 16 → length (taken_before end q).queue.events ≡ 16
taken_places end q h = go (first_before end (pending q)) refl
  where
    go : (f : Option Event) → first_before end (pending q) ≡ f → length (taken_before end q).queue.events ≡ 16
    go None t = rw (taken_none end q t) h
    go (Some e) t = rw (taken_due end q e t) (without_places q h)

-- ---- blank

-- the queue that holds these events, and blanks
abbrev pub queue_of : List Event → Queue
queue_of l = record { events = l ++ replicate (16 - length l) blank_event; count = length l }

pub queue_of_empty : queue_of [] ≡ empty_queue
queue_of_empty = refl

pub queue_of_pending : (l : List Event) → pending (queue_of l) ≡ l
queue_of_pending l = take_at l (replicate (16 - length l) blank_event) (length l) refl

pub queue_of_entered : (e : Event) (l : List Event) → length l < 16 → entered e (queue_of l) ≡ queue_of (insert e l)
queue_of_entered e l h =
    let k : 16 - length l ≡ suc (15 - length l) = omega arith in
    let m : 16 - suc (length l) ≡ 15 - length l = omega arith in
    rw (queue_of_pending l, drop-append-add l (replicate (16 - length l) blank_event) 1, insert_length e l, m, k, add-one (length l)) refl

pub queue_of_without : (e : Event) (l : List Event) → length l < 16 → without (queue_of (e ∷ l)) ≡ queue_of l
queue_of_without e l h =
    let k : suc (length l) - 1 ≡ length l = omega arith in
    let m : 16 - suc (length l) + 1 ≡ 16 - length l = omega arith in
    let r = replicate-append-replicate (16 - suc (length l)) 1 blank_event in
    rw (append_assoc l (replicate (16 - suc (length l)) blank_event) (blank_event ∷ []), r, m, k) refl

-- so of a queue whose unused places are blank each call makes another, and the list tells it whole
pub queue_of_received : (e : Event) (l : List Event) → queue_full e (queue_of l) ≡ false → (received e (queue_of l)).queue ≡ queue_of (enter e l)
unfolding received
queue_of_received e l h = rw h (go (is_cancel_all e.kind) h)
  where
    go : (b : Bool) → (leb 16 (length l) && not b) ≡ false → entered e (cond b empty_queue (queue_of l)) ≡ queue_of (insert e (cond b [] l))
    go true g = queue_of_entered e [] (lit≤ tt)
    go false g = queue_of_entered e l (leb-false 16 (length l) (sym (and-true (leb 16 (length l))) ∙ g))

pub queue_of_taken : (end : ℤ) (e : Event) (l : List Event) → length l < 16 → first_before end (e ∷ l) ≡ Some e → (taken_before end (queue_of (e ∷ l))).queue ≡ queue_of l
queue_of_taken end e l h f = rw (taken_due end (queue_of (e ∷ l)) e f) (queue_of_without e l h)
