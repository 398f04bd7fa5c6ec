-- What an admissible event has passed, and that an event which a command takes is admissible.
-- The idea: `event_of` finds kinds 2 and 6 at time 0 only, and a command takes what it finds past 10, 11 and 12. Assumes nothing.
use Prim.Native.Nat.{ℕ, ◌^◌}
use mathlib.Core.Path.{◌≡◌, refl, subst}
use mathlib.Core.Bool.{Bool, true, false, ◌&&◌, ◌||◌, cond, and-eq-true_iff}
use mathlib.Core.List.{List, [], ◌∷◌}
use mathlib.Core.Option.{Option, none, some}
use borrow.Author.Tests.{eqb-true, not-false}
use lib.Dec.{eqb}
use lib.IntN.{pos}
use lib.ListN.{length}
use Rattle.timestamp.specs.declared.Timestamp.{Timestamp}
use Rattle.sampler_event.specs.declared.Kind.{Kind}
use Rattle.sampler_event.specs.declared.Kind.TheVariants.{Start, StartImmediate, Stop, EnableLoop, CancelLoop, CancelAll}
use Rattle.sampler_event.specs.declared.Event.{Event}
use Rattle.sampler_event.specs.declared.Record.{Record}
use Rattle.laws.specs.Rules.{within, rule}
use Rattle.sampler_event.specs.Events.{timed}
use Rattle.sampler_event.specs.Record.{is_zero, event_if, event_of, fields, read_record}
use Rattle.sampler_event.specs.Limits.{time_bad, positions_bad, loop_bad, event_fault, admissible}
use Rattle.sampler_event.specs.Command.{command_answer}
use Rattle.sampler_event.proofs.UpTo.{UpTo, within_up}
use Rattle.laws.proofs.Rules.{held}
use Rattle.sampler_event.proofs.Answers.{taken}

-- ---- what it has passed
pub record Passed (R F : ℕ) (e : Event) : Type 0 where
  pub time : time_bad e ≡ false
  pub places : positions_bad e.kind ≡ false
  pub loop : loop_bad R F e.kind ≡ false
  pub timely : (timed e.kind || is_zero e.time) ≡ true

pub passed : (R F : ℕ) (e : Event) → admissible R F e ≡ true → Passed R F e
unfolding admissible event_fault
passed R F e h =
    let p = (and-eq-true_iff (eqb (event_fault R F e) 0) (timed e.kind || is_zero e.time)).0 h in
    let a = held 9 (time_bad e) (rule 11 (positions_bad e.kind) ∷ rule 12 (loop_bad R F e.kind) ∷ []) (eqb-true (event_fault R F e) 0 p.0) in
    let b = held 10 (positions_bad e.kind) (rule 12 (loop_bad R F e.kind) ∷ []) a.1 in
    let c = held 11 (loop_bad R F e.kind) [] b.1 in
    record { time = a.0; places = b.0; loop = c.0; timely = p.1 }

pub time_up : (e : Event) → time_bad e ≡ false → UpTo (2 ^ 48) e.time.bits
time_up e h = within_up (2 ^ 48) e.time.bits (not-false (within (pos 0) (pos (2 ^ 48)) e.time.bits) h)

-- ---- what a record is read as
abbrev Timely : Option Event → Type 0
Timely none = Unit {0}
Timely (some e) = (timed e.kind || is_zero e.time) ≡ true

of_two : (b : Bool) (x y : Option Event) → Timely x → Timely y → Timely (cond b x y)
of_two true x y p q = p
of_two false x y p q = q

of_if : (z : Bool) (t : Timestamp) (k : Kind) → (z ≡ true → (timed k || is_zero t) ≡ true) → Timely (event_if z t k)
of_if true t k p = p refl
of_if false t k p = tt

read_timely : (w : Record) → Timely (event_of w)
unfolding event_of
read_timely w =
    let t = is_zero w.time in
    let second = is_zero w.second in
    let points = is_zero w.first && second in
    of_two (eqb w.kind 1) _ _ (of_if second w.time (Start w.first) (λ z. refl))
    (of_two (eqb w.kind 2) _ _ (of_if (t && points) w.time StartImmediate (λ z. ((and-eq-true_iff t points).0 z).0))
    (of_two (eqb w.kind 3) _ _ (of_if points w.time Stop (λ z. refl))
    (of_two (eqb w.kind 4) _ _ (of_if true w.time (EnableLoop w.first w.second) (λ z. refl))
    (of_two (eqb w.kind 5) _ _ (of_if points w.time CancelLoop (λ z. refl))
    (of_two (eqb w.kind 6) _ none (of_if (t && points) w.time CancelAll (λ z. ((and-eq-true_iff t points).0 z).0)) tt)))))

record_timely : (s : List ℕ) → Timely (read_record s)
unfolding read_record
record_timely s = of_two (eqb (length s) 26) (event_of (fields s)) none (read_timely (fields s)) tt

-- ---- what a command takes
pub taken_admissible : (R F : ℕ) (s : List ℕ) → (command_answer R F s).number ≡ 0 → admissible R F (command_answer R F s).event ≡ true
unfolding command_answer admissible
taken_admissible R F s e =
    let t = taken R F (read_record s) e in
    rw t.1 (subst Timely t.0 (record_timely s))
