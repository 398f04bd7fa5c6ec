-- Numbers 10, 11 and 12, and "each event admissible". R is a rate, F the fade length. Definitions only.
use Rattle.std.specs.Prelude.{ℕ, ◌*◌, ◌^◌, max, Bool, false, ◌&&◌, ◌||◌, not, List, [], ◌∷◌, eqb, ℤ, pos, ◌+ℤ◌, ◌-ℤ◌, ◌*ℤ◌}
use Rattle.std.specs.Int.Signed.{lt_z}
use Rattle.sampler_event.specs.declared.Kind.{Kind}
use Rattle.sampler_event.specs.declared.Kind.TheVariants.{Start, StartImmediate, Stop, EnableLoop, CancelLoop, CancelAll}
use Rattle.sampler_event.specs.declared.Event.{Event}
use Rattle.laws.specs.Rules.{within, Rule, rule, first_broken}
use Rattle.sampler_event.specs.Events.{timed}
use Rattle.sampler_event.specs.Record.{is_zero}

-- 10: "event time outside 0 to 2^48"
abbrev pub time_bad : Event → Bool
time_bad e = not (within (pos 0) (pos (2 ^ 48)) e.time.bits)

-- 11: "a start or loop position outside 0 to 2^42"
abbrev pub place_bad : ℤ → Bool
place_bad z = not (within (pos 0) (pos (2 ^ 42)) z)

-- the positions that a kind has
abbrev pub positions_bad : Kind → Bool
positions_bad (Start p) = place_bad p.bits
positions_bad StartImmediate = false
positions_bad Stop = false
positions_bad (EnableLoop a b) = place_bad a.bits || place_bad b.bits
positions_bad CancelLoop = false
positions_bad CancelAll = false

-- 12: "loop with (end−start)·R + 2^31 below M·2^32, M the larger of F and 64"
abbrev pub loop_short : ℕ → ℕ → ℤ → ℤ → Bool
loop_short R F start end = lt_z ((end -ℤ start) *ℤ pos R +ℤ pos (2 ^ 31)) (pos (max F 64 * 2 ^ 32))

-- the loop that a kind has
abbrev pub loop_bad : ℕ → ℕ → Kind → Bool
loop_bad R F (Start p) = false
loop_bad R F StartImmediate = false
loop_bad R F Stop = false
loop_bad R F (EnableLoop a b) = loop_short R F a.bits b.bits
loop_bad R F CancelLoop = false
loop_bad R F CancelAll = false

-- the part of "Command: 14, 13, 10, 11, 12, 9" that an event answers by itself
abbrev pub event_order : ℕ → ℕ → Event → List Rule
event_order R F e = rule 10 (time_bad e) ∷ rule 11 (positions_bad e.kind) ∷ rule 12 (loop_bad R F e.kind) ∷ []

-- the first of them that refuses it, or 0
unfoldable pub event_fault : ℕ → ℕ → Event → ℕ
event_fault R F e = first_broken (event_order R F e)

-- "each event admissible": past 10, 11 and 12, and at time 0 where its kind has no other
unfoldable pub admissible : ℕ → ℕ → Event → Bool
unfolding event_fault
admissible R F e = eqb (event_fault R F e) 0 && (timed e.kind || is_zero e.time)
