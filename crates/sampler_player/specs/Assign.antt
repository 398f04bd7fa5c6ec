-- "Stop" and "Assign", over any number of voices. Definitions only.
use Rattle.std.specs.Prelude.{ℕ, suc, Bool, false, cond, List, [], ◌∷◌, map, eqb, ℤ, pos, get_or, set, Option, Some, None}
use Rattle.sampler_voice.specs.declared.Voice.{Voice}
use Rattle.sampler_voice.specs.Voices.{silent, is_stopped, started_at, ended_voice}
use Rattle.sampler_player.specs.declared.Points.TheVariants.{Absent}
use Rattle.sampler_player.specs.declared.Player.{Player}
use Rattle.sampler_player.specs.Clock.{Clock}

-- "both voices Stopped at 0, active none, times and counts 0, no loop points"
abbrev pub quiet : Player
quiet =
    record { voices = silent ∷ silent ∷ []; active = None; points = Absent; position = record { bits = pos 0 }; start = record { bits = pos 0 }; completed = 0 }

-- a player with these voices and this active one
abbrev pub voiced : List Voice → Option ℕ → Player → Player
voiced vs a p =
    record { voices = vs; active = a; points = p.points; position = p.position; start = p.start; completed = p.completed }

-- "Stop: each FadingIn or Playing voice becomes FadingOut(0), active none"
unfoldable pub stop : Player → Player
stop p = voiced (map ended_voice p.voices) None p

-- "the first Stopped voice"; "With none Stopped, nothing is active"
abbrev pub one_more : Option ℕ → Option ℕ
one_more None = None
one_more (Some i) = Some (suc i)

abbrev pub first_stopped : List Voice → Option ℕ
first_stopped [] = None
first_stopped (v ∷ vs) = cond (is_stopped v.phase) (Some 0) (one_more (first_stopped vs))

-- "starts at v and is active"
abbrev pub start_in : Option ℕ → ℕ → List Voice → List Voice
start_in None v vs = vs
start_in (Some i) v vs = set vs i (started_at v)

unfoldable pub begin : ℕ → Player → Player
begin v p = let a = first_stopped p.voices in voiced (start_in a v p.voices) a p

-- "the active voice is at v"
abbrev pub active_at : Option ℕ → ℕ → List Voice → Bool
active_at None v vs = false
active_at (Some i) v vs = eqb (get_or vs i silent).position v

-- "If the active voice is at v, do nothing. Else stop, and the first Stopped voice starts at v and is active"
unfoldable pub assign_at : ℕ → Player → Player
unfolding begin stop
assign_at v p = cond (active_at p.active v p.voices) p (begin v (stop p))

-- "Assign at time u: v = round S(u), negative as 0"
abbrev pub assign : Clock → ℤ → Player → Player
assign k u p = assign_at (k.near u) p
