-- What an event does to what plays. Definitions only.
use Rattle.std.specs.Prelude.{ℕ, ℤ, pos, ◌+ℤ◌}
use Rattle.timestamp.specs.declared.Timestamp.{Timestamp}
use Rattle.sampler_event.specs.declared.Kind.{Kind}
use Rattle.sampler_event.specs.declared.Kind.TheVariants.{Start, StartImmediate, Stop, EnableLoop, CancelLoop, CancelAll}
use Rattle.sampler_player.specs.declared.Points.{Points}
use Rattle.sampler_player.specs.declared.Points.TheVariants.{Absent, Between}
use Rattle.sampler_player.specs.declared.Player.{Player}
use Rattle.sampler_player.specs.Clock.{clock_at}
use Rattle.sampler_player.specs.Assign.{stop, assign}

abbrev pub pointed : Points → Player → Player
pointed q p =
    record { voices = p.voices; active = p.active; points = q; position = p.position; start = p.start; completed = p.completed }

-- "completed loops 0; leg position = delay; start position = the given one"
abbrev pub begun : Timestamp → ℤ → Player → Player
begun from delay p =
    record { voices = p.voices; active = p.active; points = p.points; position = record { bits = delay }; start = from; completed = 0 }

-- "Assign the voice at position + delay"; "StartImmediate: all zero"; "CancelAll: stop and clear the loop points"; "CancelLoop clears the points and changes nothing more"
unfoldable pub apply : ℕ → Kind → ℤ → Player → Player
apply R (Start u) delay p = begun u delay (assign (clock_at R) (u.bits +ℤ delay) p)
apply R StartImmediate delay p = begun (record { bits = pos 0 }) (pos 0) (assign (clock_at R) (pos 0) p)
apply R Stop delay p = stop p
apply R (EnableLoop from end) delay p = pointed (Between from end) p
apply R CancelLoop delay p = pointed Absent p
apply R CancelAll delay p = pointed Absent (stop p)
