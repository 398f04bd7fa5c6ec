-- "Passes that only catch up .. doing them at one stroke is allowed if proved equal": what they come to (proofs/Stroke says so), and E as the code has it. Definitions only.
use Rattle.std.specs.Prelude.{ℕ, ◌+◌, ◌*◌, ◌-◌, ◌/◌, ◌^◌, cond, ℤ, pos, nat_abs, ◌+ℤ◌, ◌-ℤ◌}
use Rattle.std.specs.Int.Signed.{lt_z}
use Rattle.timestamp.specs.declared.Timestamp.{Timestamp}
use Rattle.sampler_player.specs.declared.Points.{Points}
use Rattle.sampler_player.specs.declared.Points.TheVariants.{Absent, Between}
use Rattle.sampler_player.specs.declared.Player.{Player}
use Rattle.sampler_player.specs.Clock.{clock_at}
use Rattle.sampler_player.specs.Assign.{assign}

-- half a frame in units, rounded up: an end that is less ahead leaves no frame
abbrev pub half_frame : ℕ → ℕ
half_frame R = (2 ^ 31 + R - 1) / R

-- "end−loop start"
abbrev pub loop_length : Timestamp → Timestamp → ℕ
loop_length from end = nat_abs (end.bits -ℤ from.bits)

-- how far the position is past the first end, and half a frame: the loops that are completed have to reach so far
abbrev pub due : ℕ → Timestamp → Player → ℤ
due R end p = p.position.bits -ℤ (end.bits -ℤ p.start.bits) +ℤ pos (half_frame R)

-- the fewest loops of a length L that reach n
abbrev pub reaching : ℕ → ℕ → ℕ
reaching L n = (n + L - 1) / L

abbrev pub caught_to : ℕ → Timestamp → Timestamp → Player → ℕ
caught_to R from end p = reaching (loop_length from end) (nat_abs (due R end p))

-- "completed + 1, assign at loop start", until they do: each but the first finds the active voice at the loop start
abbrev pub looped : ℕ → Timestamp → ℕ → Player → Player
looped R from n p =
    assign (clock_at R) from.bits
    (record { voices = p.voices; active = p.active; points = p.points; position = p.position; start = p.start; completed = n })

abbrev pub stroke_at : ℕ → Points → Player → Player
stroke_at R Absent p = p
stroke_at R (Between from end) p = cond (lt_z (pos (loop_length from end * p.completed)) (due R end p)) (looped R from (caught_to R from end p) p) p

unfoldable pub stroke_of : ℕ → Player → Player
stroke_of R p = stroke_at R p.points p

-- a time later than any stop of a block: E counts up to there
abbrev pub last_stop : ℤ
last_stop = pos (2 ^ 48 + 2 ^ 47)
