-- Assign twice at one place is Assign once, for any number of voices; and what Assign, Stop and a loop-back leave as it is.
-- The idea: after one Assign the active voice stands at the place, or no voice is Stopped and none becomes so. Assumes nothing.
use Prim.Native.Nat.{ℕ, ◌+◌}
use mathlib.Core.Path.{◌≡◌, refl, ap, ◌∙◌}
use mathlib.Core.Bool.{Bool, true, false, cond}
use mathlib.Core.List.{List, [], ◌∷◌, map}
use lib.IntN.{ℤ}
use lib.ListN.{get_or, set}
use borrow.Author.Tests.{eq-eqb}
use Rattle.timestamp.specs.declared.Timestamp.{Timestamp}
use Rattle.sampler_voice.specs.declared.Phase.{Phase}
use Rattle.sampler_voice.specs.declared.Phase.TheVariants.{Stopped, FadingIn, Playing, FadingOut}
use Rattle.sampler_voice.specs.declared.Voice.{Voice}
use Rattle.sampler_voice.specs.Voices.{silent, is_stopped, started_at, ended, ended_voice}
use Rattle.std.specs.Prelude.{Option, Some, None}
use Rattle.sampler_player.specs.declared.Setup.{Setup}
use Rattle.sampler_player.specs.declared.Player.{Player}
use Rattle.sampler_player.specs.Clock.{Clock}
use Rattle.sampler_player.specs.Assign.{voiced, stop, one_more, first_stopped, start_in, begin, active_at, assign_at, assign}
use Rattle.sampler_player.specs.Pieces.{loop_back}

-- ---- to stop is to stop twice
ended_twice : (ph : Phase) → ended (ended ph) ≡ ended ph
ended_twice Stopped = refl
ended_twice (FadingIn i) = refl
ended_twice Playing = refl
ended_twice (FadingOut i) = refl

stop_twice : (vs : List Voice) → map ended_voice (map ended_voice vs) ≡ map ended_voice vs
stop_twice [] = refl
stop_twice (v ∷ vs) = λ i. record { position = v.position; phase = ended_twice v.phase i } ∷ stop_twice vs i

-- ---- the voice that starts stands where it was told to
abbrev Starts : ℕ → List Voice → Option ℕ → Type 0
Starts x vs None = Unit {0}
Starts x vs (Some i) = (get_or (set vs i (started_at x)) i silent).position ≡ x

starts_one : (x : ℕ) (v : Voice) (vs : List Voice) (a : Option ℕ) → Starts x vs a → Starts x (v ∷ vs) (one_more a)
starts_one x v vs None h = tt
starts_one x v vs (Some i) h = h

starts_first : (x : ℕ) (v : Voice) (vs : List Voice) (t : Bool) → Starts x (v ∷ vs) (one_more (first_stopped vs))
    → Starts x (v ∷ vs) (cond t (Some 0) (one_more (first_stopped vs)))
starts_first x v vs true h = refl
starts_first x v vs false h = h

starts : (x : ℕ) (vs : List Voice) → Starts x vs (first_stopped vs)
starts x [] = tt
starts x (v ∷ vs) = starts_first x v vs (is_stopped v.phase) (starts_one x v vs (first_stopped vs) (starts x vs))

-- ---- a player that was stopped and started at x, and once more
again : (x : ℕ) (p : Player) (a : Option ℕ) → first_stopped (map ended_voice p.voices) ≡ a → Starts x (map ended_voice p.voices) a
    → cond (active_at a x (start_in a x (map ended_voice p.voices))) (voiced (start_in a x (map ended_voice p.voices)) a p)
    (begin x (stop (voiced (start_in a x (map ended_voice p.voices)) a p)))
    ≡ voiced (start_in a x (map ended_voice p.voices)) a p
unfolding begin stop
again x p None e h =
    ap (λ (vs : List Voice). voiced (start_in (first_stopped vs) x vs) (first_stopped vs) p) (stop_twice p.voices)
    ∙ ap (λ (a : Option ℕ). voiced (start_in a x (map ended_voice p.voices)) a p) e
again x p (Some i) e h =
    ap
    (λ (t : Bool). cond t (voiced (set (map ended_voice p.voices) i (started_at x)) (Some i) p)
    (begin x (stop (voiced (set (map ended_voice p.voices) i (started_at x)) (Some i) p))))
    (eq-eqb (get_or (set (map ended_voice p.voices) i (started_at x)) i silent).position x h)

at_on : (x : ℕ) (p : Player) (t : Bool) → active_at p.active x p.voices ≡ t → assign_at x (cond t p (begin x (stop p))) ≡ cond t p (begin x (stop p))
unfolding assign_at begin stop
at_on x p true e = ap (λ (t : Bool). cond t p (begin x (stop p))) e
at_on x p false e = again x p (first_stopped (map ended_voice p.voices)) refl (starts x (map ended_voice p.voices))

pub at_twice : (x : ℕ) (p : Player) → assign_at x (assign_at x p) ≡ assign_at x p
unfolding assign_at
at_twice x p = at_on x p (active_at p.active x p.voices) refl

pub assign_twice : (k : Clock) (u : ℤ) (p : Player) → assign k u (assign k u p) ≡ assign k u p
assign_twice k u p = at_twice (k.near u) p

-- ---- what they leave: whatever doesn't look at the voices and the active one
abbrev pub Apart : {X : Type 0} → (Player → X) → Type 0
Apart f = (vs : List Voice) (a : Option ℕ) (p : Player) → f (voiced vs a p) ≡ f p

module _ {X : Type 0} (f : Player → X) (h : Apart f) where
  pub stop_leaves : (p : Player) → f (stop p) ≡ f p
  unfolding stop
  stop_leaves p = h (map ended_voice p.voices) None p

  chosen : (t : Bool) (x : ℕ) (p : Player) → f (cond t p (begin x (stop p))) ≡ f p
  unfolding begin stop
  chosen true x p = refl
  chosen false x p = h (start_in (first_stopped (stop p).voices) x (stop p).voices) (first_stopped (stop p).voices) (stop p) ∙ stop_leaves p

  pub assign_leaves : (k : Clock) (u : ℤ) (p : Player) → f (assign k u p) ≡ f p
  unfolding assign_at
  assign_leaves k u p = chosen (active_at p.active (k.near u) p.voices) (k.near u) p

-- a player with this many loops completed
abbrev pub counted : ℕ → Player → Player
counted c p = record { voices = p.voices; active = p.active; points = p.points; position = p.position; start = p.start; completed = c }

module _ (k : Clock) (s : Setup) where
  pub back_leaves : {X : Type 0} (f : Player → X) → Apart f → (from : Timestamp) (p : Player) → f (loop_back k s from p) ≡ f (counted (p.completed + 1) p)
  unfolding loop_back
  back_leaves f h from p = assign_leaves f h k from.bits (counted (p.completed + 1) p)

  pub back_points : (from : Timestamp) (p : Player) → (loop_back k s from p).points ≡ p.points
  back_points = back_leaves (λ q. q.points) (λ vs a q. refl)

  pub back_position : (from : Timestamp) (p : Player) → (loop_back k s from p).position ≡ p.position
  back_position = back_leaves (λ q. q.position) (λ vs a q. refl)

  pub back_start : (from : Timestamp) (p : Player) → (loop_back k s from p).start ≡ p.start
  back_start = back_leaves (λ q. q.start) (λ vs a q. refl)

  pub back_completed : (from : Timestamp) (p : Player) → (loop_back k s from p).completed ≡ p.completed + 1
  back_completed = back_leaves (λ q. q.completed) (λ vs a q. refl)

-- ---- to count loops and to assign, in either order
counted_on : (c x : ℕ) (p : Player) (t : Bool) → counted c (cond t p (begin x (stop p))) ≡ cond t (counted c p) (begin x (stop (counted c p)))
unfolding begin stop
counted_on c x p true = refl
counted_on c x p false = refl

pub assign_counted : (k : Clock) (u : ℤ) (c : ℕ) (p : Player) → counted c (assign k u p) ≡ assign k u (counted c p)
unfolding assign_at
assign_counted k u c p = counted_on c (k.near u) p (active_at p.active (k.near u) p.voices)
