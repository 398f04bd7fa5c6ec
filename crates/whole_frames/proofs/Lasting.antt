-- What passes leave: start position and loop points stay, completed loops only grow, and no piece has more frames than remain.
-- The idea: one pass renders at most what remains, or only catches up, and the rest is a sum over the passes. (Position and count: sampler_player's Trace.) Assumes nothing.
use Prim.Native.Nat.{ℕ, zero, suc, ◌-◌, ◌≤◌}
use native.Mathlib.Omega.{arith}
use native.Mathlib.Nat.{le_refl, le_trans}
use mathlib.Core.Path.{◌≡◌, refl, ◌∙◌}
use mathlib.Core.List.{List, [], ◌∷◌}
use mathlib.Core.Option.{Option, none, some}
use Rattle.timestamp.specs.declared.Timestamp.{Timestamp}
use Rattle.sampler_player.specs.declared.Setup.{Setup}
use Rattle.sampler_player.specs.Clock.{Clock}
use Rattle.sampler_player.specs.Pieces.{Lent, Going, loop_back, after, and_then, piece_of, rendered, pass, passes, renderings}
use Rattle.sampler_player.proofs.Assign.{back_points, back_start, back_completed}
use Rattle.sampler_player.proofs.Passes.{going, Each, each_pass}

-- every piece has at most l frames
abbrev pub AtMost : ℕ → List ℕ → Type 0
AtMost l [] = Unit {0}
AtMost l (m ∷ ms) = (m ≤ l) × AtMost l ms

pub at_most_wider : (l x : ℕ) (ms : List ℕ) → l ≤ x → AtMost l ms → AtMost x ms
at_most_wider l x [] h a = tt
at_most_wider l x (m ∷ ms) h a = (le_trans a.0 h, at_most_wider l x ms h a.1)

at_most_piece : (l n : ℕ) (ms : List ℕ) → n ≤ l → AtMost l ms → AtMost l (piece_of n ms)
at_most_piece l zero ms h a = a
at_most_piece l (suc n) ms h a = (h, a)

-- ---- from g to h, by the pieces ms
pub record Lasting (g h : Going) (ms : List ℕ) : Type 0 where
  pub sizes : AtMost g.remaining ms
  pub completed : g.player.completed ≤ h.player.completed
  pub start : h.player.start ≡ g.player.start
  pub points : h.player.points ≡ g.player.points

lasting_none : (g : Going) → Lasting g g []
lasting_none g = record { sizes = tt; completed = le_refl _; start = refl; points = refl }

-- by one pass
record Onward (g h : Going) : Type 0 where
  left : h.remaining ≤ g.remaining
  completed : g.player.completed ≤ h.player.completed
  start : h.player.start ≡ g.player.start
  points : h.player.points ≡ g.player.points

module _ (k : Clock) (s : Setup) (b : Lent) where
  onward_caught : (from : Timestamp) (g : Going) → Onward g (going (loop_back k s from g.player) g)
  onward_caught from g =
      let c = back_completed k s from g.player in
      record { left = le_refl _; completed = omega (arith, c); start = back_start k s from g.player; points = back_points k s from g.player }

  onward_piece : (n : ℕ) (g : Going) → Onward g (rendered k s b n g)
  unfolding rendered
  onward_piece n g = record { left = omega arith; completed = le_refl _; start = refl; points = refl }

  on : (go : Going → Going) (tell : Going → List ℕ) → ((h : Going) → Lasting h (go h) (tell h)) → (g : Going) (o : Option Going) → Each (Onward g) o → Lasting g (after go g o) (and_then tell g o)
  on go tell ih g none a = lasting_none g
  on go tell ih g (some h) a =
      let t = ih h in
      record {
        sizes = at_most_piece g.remaining (g.remaining - h.remaining) (tell h) (omega arith) (at_most_wider h.remaining g.remaining (tell h) a.left t.sizes);
        completed = le_trans a.completed t.completed;
        start = t.start ∙ a.start;
        points = t.points ∙ a.points;
      }

  pub lasting : (f : ℕ) (g : Going) → Lasting g (passes k s b f g) (renderings k s b f g)
  unfolding passes renderings
  lasting zero g = lasting_none g
  lasting (suc f) g =
      on (λ h. passes k s b f h) (λ h. renderings k s b f h) (lasting f) g (pass k s b g.remaining g)
      (each_pass k s b g (Onward g) (λ from end q h z. onward_caught from g) (λ n e h. onward_piece (suc n) g))
