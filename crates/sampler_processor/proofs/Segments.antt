-- A segment of no frames changes nothing, and one has no more pieces than frames.
-- The idea: a pass that renders a piece takes at least a frame. Assumes nothing.
use mathlib.Core.Path.{◌≡◌, refl, ap}
use mathlib.Core.Option.{Option, none, some}
use Prim.Native.Nat.{ℕ, zero, suc, ◌+◌, ◌^◌, ◌≤◌}
use native.Mathlib.Nat.{le_refl, le_trans, le-add_right}
use native.Mathlib.Omega.{arith}
use Rattle.sampler_player.specs.declared.Setup.{Setup}
use Rattle.sampler_player.specs.Clock.{Clock}
use Rattle.sampler_player.proofs.Passes.{Each, each_pass}
use Rattle.sampler_player.specs.Pieces.{Lent, Going, after, rendered, pass, passes, segment}

module _ (k : Clock) (s : Setup) (b : Lent) where
  -- no frames, no pass
  still : (f : ℕ) (g : Going) → g.remaining ≡ 0 → passes k s b f g ≡ g
  unfolding passes pass
  still zero g h = refl
  still (suc f) g h = ap (λ (r : ℕ). after (λ x. passes k s b f x) g (pass k s b r g)) h

  pub segment_none : (g : Going) → g.remaining ≡ 0 → segment k s b g ≡ g
  unfolding segment
  segment_none g h = still (g.remaining + (2 ^ 27 + 1)) g h

  -- each piece has a frame at least, so there are no more pieces than frames
  abbrev Fewer : Going → Going → Type 0
  Fewer g h = h.pieces + h.remaining ≤ g.pieces + g.remaining

  fewer_piece : (n : ℕ) (g : Going) → suc n ≤ g.remaining → Fewer g (rendered k s b (suc n) g)
  unfolding rendered
  fewer_piece n g h = omega arith

  fewer_on : (go : Going → Going) → ((h : Going) → Fewer h (go h)) → (g : Going) (o : Option Going) → Each (Fewer g) o → Fewer g (after go g o)
  fewer_on go ih g none f = le_refl _
  fewer_on go ih g (some h) f = le_trans (ih h) f

  fewer_passes : (f : ℕ) (g : Going) → Fewer g (passes k s b f g)
  unfolding passes
  fewer_passes zero g = le_refl _
  fewer_passes (suc f) g = fewer_on (λ h. passes k s b f h) (fewer_passes f) g (pass k s b g.remaining g) (each_pass k s b g (Fewer g) (λ from end q h z. le_refl _) (λ n e h. fewer_piece n g h))

  pub segment_pieces : (g : Going) → (segment k s b g).pieces ≤ g.pieces + g.remaining
  unfolding segment
  segment_pieces g = le_trans (le-add_right _ _) (fewer_passes (g.remaining + (2 ^ 27 + 1)) g)
