-- The command record, "Commands and their queue" of document 01: what its bytes say, and the event that it is, or none, which is number 13. Definitions only.
use Rattle.std.specs.Prelude.{ℕ, suc, ◌+◌, ◌*◌, ◌-◌, ◌^◌, Bool, true, ◌&&◌, cond, List, [], ◌∷◌, eqb, ltb, ℤ, pos, negsuc, nat_abs, length, take, drop}
use Rattle.std.proofs.Math.Option.{Option, none, some}
use Rattle.timestamp.specs.declared.Timestamp.{Timestamp}
use Rattle.sampler_event.specs.declared.Kind.{Kind}
use Rattle.sampler_event.specs.declared.Kind.TheVariants.{Start, StartImmediate, Stop, EnableLoop, CancelLoop, CancelAll}
use Rattle.sampler_event.specs.declared.Event.{Event}
use Rattle.sampler_event.specs.declared.Record.{Record}
use Rattle.sampler_event.specs.Events.{event_at}

-- "little-endian"
abbrev pub little : List ℕ → ℕ
little [] = 0
little (b ∷ bs) = b + 256 * little bs

-- "as i64"
abbrev pub as_i64 : ℕ → ℤ
as_i64 u = cond (ltb u (2 ^ 63)) (pos u) (negsuc (2 ^ 64 - suc u))

-- 64 bits as a time
abbrev pub time_from : ℕ → Timestamp
time_from u = record { bits = as_i64 u }

-- "Record, little-endian: kind u16, time, first, second as i64"
unfoldable pub fields : List ℕ → Record
fields s =
    record {
      kind = little (take 2 s);
      time = time_from (little (take 8 (drop 2 s)));
      first = time_from (little (take 8 (drop 10 s)));
      second = time_from (little (take 8 (drop 18 s)));
    }

-- what a "field not used" has to be
abbrev pub is_zero : Timestamp → Bool
is_zero t = eqb (nat_abs t.bits) 0

-- an event where all that its kind does not use is zero, and otherwise none
abbrev pub event_if : Bool → Timestamp → Kind → Option Event
event_if zeros t k = cond zeros (some (event_at t k)) none

-- "1 Start (first = position), 2 StartImmediate, 3 Stop, 4 EnableLoop (first, second = points), 5 CancelLoop, 6 CancelAll. Kinds 2 and 6 have time 0, another time there is 13"
unfoldable pub event_of : Record → Option Event
event_of w =
    let noTime = is_zero w.time in
    let noFirst = is_zero w.first in
    let noSecond = is_zero w.second in
    cond (eqb w.kind 1) (event_if noSecond w.time (Start w.first))
    (cond (eqb w.kind 2) (event_if (noTime && (noFirst && noSecond)) w.time StartImmediate)
    (cond (eqb w.kind 3) (event_if (noFirst && noSecond) w.time Stop)
    (cond (eqb w.kind 4) (event_if true w.time (EnableLoop w.first w.second))
    (cond (eqb w.kind 5) (event_if (noFirst && noSecond) w.time CancelLoop)
    (cond (eqb w.kind 6) (event_if (noTime && (noFirst && noSecond)) w.time CancelAll) none)))))

-- 13: "record not 26 bytes, unknown kind, or a field not used isn't zero"
unfoldable pub read_record : List ℕ → Option Event
unfolding fields event_of
read_record s = cond (eqb (length s) 26) (event_of (fields s)) none
