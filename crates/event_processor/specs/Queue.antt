-- "Commands and their queue" of document 01: the events that wait, as a list, what a command and a block do to it, and what each call answers. Definitions only.
use Rattle.std.specs.Prelude.{ℕ, ◌+◌, ◌-◌, Bool, true, false, ◌&&◌, not, cond, List, [], ◌∷◌, ◌++◌, leb, ℤ, take, drop, replicate, Option, None, Some, Result, Ok, Err}
use Rattle.std.specs.Int.Signed.{lt_z, le_z}
use Rattle.laws.specs.declared.Refused.{Refused}
use Rattle.laws.specs.Rules.{number_of}
use Rattle.sampler_event.specs.Events.{blank_event, is_cancel_all}
use Rattle.sampler_event.specs.declared.Event.{Event}
use Rattle.event_processor.specs.declared.Queue.{Queue}
use Rattle.event_processor.specs.declared.Taken.{Taken}

-- ---- the events that wait, as a list

-- "sorted by time, equal times by submission": after those that are not later
abbrev pub insert : Event → List Event → List Event
insert e [] = e ∷ []
insert e (x ∷ xs) = cond (lt_z e.time.bits x.time.bits) (e ∷ x ∷ xs) (x ∷ insert e xs)

-- "CancelAll empties the queue, then enters it"
abbrev pub enter : Event → List Event → List Event
enter e l = insert e (cond (is_cancel_all e.kind) [] l)

-- "the first event with time below that end"
abbrev pub first_before : ℤ → List Event → Option Event
first_before end [] = None
first_before end (e ∷ es) = cond (lt_z e.time.bits end) (Some e) None

-- "in order", and none earlier than t
abbrev pub in_order_from : ℤ → List Event → Bool
in_order_from t [] = true
in_order_from t (e ∷ es) = le_z t e.time.bits && in_order_from e.time.bits es

-- "in order"
abbrev pub in_order : List Event → Bool
in_order [] = true
in_order (e ∷ es) = in_order_from e.time.bits es

-- "each event", by a test
abbrev pub each : (Event → Bool) → List Event → Bool
each P [] = true
each P (e ∷ es) = P e && each P es

-- ---- "a 16-place array with a count"

-- the events that wait, first to last
abbrev pub pending : Queue → List Event
pending q = take q.count q.events

-- "queue empty"
abbrev pub empty_queue : Queue
empty_queue = record { events = replicate 16 blank_event; count = 0 }

-- the event in its place, one place more in use, those past it as they were
abbrev pub entered : Event → Queue → Queue
entered e q = record { events = insert e (pending q) ++ drop (q.count + 1) q.events; count = q.count + 1 }

-- the first gone, every other one place down, a blank in the last: "A freed place can be used again"
abbrev pub without : Queue → Queue
without q = record { events = drop 1 q.events ++ blank_event ∷ []; count = q.count - 1 }

-- ---- the calls

-- a queue, and 0, or the number of a refusal and the queue as it was given
pub record QueueAnswer : Type 0 where
  pub number : ℕ
  pub queue : Queue

-- the number and the queue of each case of what the code answers
abbrev pub told : Result Queue (Refused Queue) → QueueAnswer
told (Ok q) = record { number = 0; queue = q }
told (Err r) = record { number = number_of r.refusal; queue = r.kept }

-- 9: "16 events pending and the new one isn't CancelAll"
abbrev pub queue_full : Event → Queue → Bool
queue_full e q = leb 16 q.count && not (is_cancel_all e.kind)

-- "CancelAll empties the queue, then enters it"; a refusal holds the queue as it was given
unfoldable pub received : Event → Queue → QueueAnswer
received e q =
    cond (queue_full e q) (record { number = 9; queue = q })
    (record { number = 0; queue = entered e (cond (is_cancel_all e.kind) empty_queue q) })

-- an event is due
abbrev pub is_due : Option Event → Bool
is_due None = false
is_due (Some e) = true

-- what is due "is taken"
abbrev pub leave : Option Event → Queue → Queue
leave None q = q
leave (Some e) q = without q

-- "the first event with time below that end is taken"
unfoldable pub taken_before : ℤ → Queue → Taken
taken_before end q = let first = first_before end (pending q) in record { first = first; queue = leave first q }
