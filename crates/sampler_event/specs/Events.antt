-- Kinds and events, "Commands and their queue" of document 01. Definitions only.
use Rattle.std.specs.Prelude.{Bool, true, false, pos}
use Rattle.timestamp.specs.declared.Timestamp.{Timestamp}
use Rattle.sampler_event.specs.declared.Kind.{Kind}
use Rattle.sampler_event.specs.declared.Kind.TheVariants.{Start, StartImmediate, Stop, EnableLoop, CancelLoop, CancelAll}
use Rattle.sampler_event.specs.declared.Event.{Event}

-- an event of a kind at a time
abbrev pub event_at : Timestamp → Kind → Event
event_at t k = record { time = t; kind = k }

-- its "now" form "is time 0"
abbrev pub event_now : Kind → Event
event_now k = event_at (record { bits = pos 0 }) k

-- what a refusal holds, and what the logic reads past the end of an array of events
abbrev pub blank_event : Event
blank_event = event_now (Start (record { bits = pos 0 }))

-- whether a kind has a time of its own: "Kinds 2 and 6 have time 0"
abbrev pub timed : Kind → Bool
timed (Start p) = true
timed StartImmediate = false
timed Stop = true
timed (EnableLoop a b) = true
timed CancelLoop = true
timed CancelAll = false

-- whether it is the kind that empties the queue
abbrev pub is_cancel_all : Kind → Bool
is_cancel_all (Start p) = false
is_cancel_all StartImmediate = false
is_cancel_all Stop = false
is_cancel_all (EnableLoop a b) = false
is_cancel_all CancelLoop = false
is_cancel_all CancelAll = true
