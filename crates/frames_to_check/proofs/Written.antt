-- What a leg is and answers as one list of numbers, so that a whole answer is compared by one test.
-- The idea: a test on numbers computes in seconds where an equation of lists takes gigabytes. Assumes nothing.
use Prim.Native.Nat.{ℕ, suc}
use mathlib.Core.Bool.{Bool, true, false, ◌&&◌}
use mathlib.Core.List.{List, [], ◌∷◌}
use lib.Dec.{eqb}
use lib.IntN.{ℤ, pos, negsuc}
use lib.Ieee.{Float, binary32, to_bits}
use Rattle.std.specs.Prelude.{Option, None, Some}
use Rattle.sampler_voice.specs.declared.Phase.{Phase}
use Rattle.sampler_voice.specs.declared.Phase.TheVariants.{Stopped, FadingIn, Playing, FadingOut}
use Rattle.sampler_voice.specs.declared.Voice.{Voice}
use Rattle.sampler_event.specs.declared.Event.{Event}
use Rattle.sampler_event.specs.declared.Kind.{Kind}
use Rattle.sampler_event.specs.declared.Kind.TheVariants.{Start, StartImmediate, Stop, EnableLoop, CancelLoop, CancelAll}
use Rattle.sampler_player.specs.declared.Points.{Points}
use Rattle.sampler_player.specs.declared.Points.TheVariants.{Absent, Between}
use Rattle.sampler_player.specs.declared.Player.{Player}
use Rattle.sampler_processor.specs.declared.Leg.{Leg}
use Rattle.sampler_processor.specs.Calls.{Rendered}

abbrev pub of_z : ℤ → List ℕ → List ℕ
of_z (pos n) r = 0 ∷ n ∷ r
of_z (negsuc n) r = 1 ∷ n ∷ r

abbrev pub of_phase : Phase → List ℕ → List ℕ
of_phase Stopped r = 0 ∷ 0 ∷ r
of_phase (FadingIn i) r = 1 ∷ i ∷ r
of_phase Playing r = 2 ∷ 0 ∷ r
of_phase (FadingOut i) r = 3 ∷ i ∷ r

abbrev pub of_voices : List Voice → List ℕ → List ℕ
of_voices [] r = r
of_voices (v ∷ vs) r = v.position ∷ of_phase v.phase (of_voices vs r)

abbrev pub of_active : Option ℕ → List ℕ → List ℕ
of_active None r = 0 ∷ r
of_active (Some i) r = suc i ∷ r

abbrev pub of_points : Points → List ℕ → List ℕ
of_points Absent r = 0 ∷ r
of_points (Between a b) r = 1 ∷ of_z a.bits (of_z b.bits r)

abbrev pub of_kind : Kind → List ℕ → List ℕ
of_kind (Start a) r = 1 ∷ of_z a.bits r
of_kind StartImmediate r = 2 ∷ r
of_kind Stop r = 3 ∷ r
of_kind (EnableLoop a b) r = 4 ∷ of_z a.bits (of_z b.bits r)
of_kind CancelLoop r = 5 ∷ r
of_kind CancelAll r = 6 ∷ r

-- every place of the queue, those that wait for nothing too
abbrev pub of_events : List Event → List ℕ → List ℕ
of_events [] r = r
of_events (e ∷ es) r = of_z e.time.bits (of_kind e.kind (of_events es r))

abbrev pub of_player : Player → List ℕ → List ℕ
of_player p r = of_voices p.voices (of_active p.active (of_points p.points (of_z p.position.bits (of_z p.start.bits (p.completed ∷ r)))))

abbrev pub of_leg : Leg → List ℕ → List ℕ
of_leg l r = l.setup.rate ∷ l.setup.channels ∷ l.setup.frames ∷ l.setup.fade ∷ of_player l.player (l.queue.count ∷ of_events l.queue.events r)

abbrev pub of_out : List Float → List ℕ → List ℕ
of_out [] r = r
of_out (x ∷ xs) r = to_bits binary32 x ∷ of_out xs r

-- number, pieces, leg, output
abbrev pub of_rendered : Rendered → List ℕ → List ℕ
of_rendered x r = x.answer.number ∷ x.answer.pieces ∷ of_leg x.answer.leg (of_out x.out r)

unfoldable pub agrees : List ℕ → List ℕ → Bool
agrees [] [] = true
agrees [] (y ∷ ys) = false
agrees (x ∷ xs) [] = false
agrees (x ∷ xs) (y ∷ ys) = eqb x y && agrees xs ys
