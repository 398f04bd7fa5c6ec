-- What a record is answered with: the event, and 0, or the number of a refusal and the blank event. Definitions only.
use Rattle.std.specs.Prelude.{ℕ, cond, List, eqb, Result, Ok, Err}
use Rattle.std.proofs.Math.Option.{Option, none, some}
use Rattle.laws.specs.declared.Refusal.{Refusal}
use Rattle.laws.specs.Rules.{number_of}
use Rattle.sampler_event.specs.declared.Event.{Event}
use Rattle.sampler_event.specs.Events.{blank_event}
use Rattle.sampler_event.specs.Record.{read_record}
use Rattle.sampler_event.specs.Limits.{event_fault}

-- ---- the shape of an answer

-- an event, and 0, or the number of a refusal and the blank event
pub record EventAnswer : Type 0 where
  pub number : ℕ
  pub event : Event

-- an event, and no refusal
abbrev pub taken_event : Event → EventAnswer
taken_event e = record { number = 0; event = e }

-- a refusal holds the blank event
abbrev pub refused_event : ℕ → EventAnswer
refused_event n = record { number = n; event = blank_event }

-- the number and the event of each case of what the code answers
abbrev pub told : Result Event Refusal → EventAnswer
told (Ok e) = taken_event e
told (Err r) = refused_event (number_of r)

-- an event that a number refuses, 0 being no refusal
abbrev pub answered : ℕ → Event → EventAnswer
answered n e = cond (eqb n 0) (taken_event e) (refused_event n)

-- ---- the order: "13, 10, 11, 12"

-- what a record is read as, by itself: none is 13
abbrev pub asked : Option Event → EventAnswer
asked none = refused_event 13
asked (some e) = taken_event e

-- and past 13 there is an event, for 10, 11 and 12
abbrev pub judged : ℕ → ℕ → Option Event → EventAnswer
judged R F none = refused_event 13
judged R F (some e) = answered (event_fault R F e) e

-- the whole
unfoldable pub command_answer : ℕ → ℕ → List ℕ → EventAnswer
unfolding read_record event_fault
command_answer R F s = judged R F (read_record s)
