-- What one pass is: it catches up, or renders an interval of some frames; and it ends a segment that has none left, or no loop and no frame before the end.
-- The idea: the cases of the definition. Assumes nothing.
use Prim.Native.Nat.{ℕ, zero, suc, ◌≤◌, ◌<◌}
use native.Mathlib.Omega.{arith}
use mathlib.Core.Path.{◌≡◌, refl, ap, ◌∙◌, subst}
use mathlib.Core.Option.{Option, none, some}
use Rattle.timestamp.specs.declared.Timestamp.{Timestamp}
use Rattle.sampler_player.specs.declared.Points.{Points}
use Rattle.sampler_player.specs.declared.Points.TheVariants.{Absent, Between}
use Rattle.sampler_player.specs.declared.Setup.{Setup}
use Rattle.sampler_player.specs.declared.Player.{Player}
use Rattle.sampler_player.specs.Clock.{Clock}
use Rattle.sampler_player.specs.Pieces.{Lent, Going, interval, loop_back, rendered, caught_up, pass_of, pass}

-- the segment has ended
abbrev pub Over : Clock → Setup → Lent → Going → Type 0
Over k s b g = pass k s b g.remaining g ≡ none

-- the same place in a segment with another player
abbrev pub going : Player → Going → Going
going p g = record { player = p; out = g.out; at = g.at; remaining = g.remaining; pieces = g.pieces }

-- of the next state, if there is one
abbrev pub Each : (Going → Type 0) → Option Going → Type 0
Each P none = Unit {0}
Each P (some h) = P h

-- an interval is within what remains
pub within_remaining : (k : Clock) (s : Setup) (p : Player) (r : ℕ) → interval k s p r ≤ r
unfolding interval
within_remaining k s p r = omega arith

module _ (k : Clock) (s : Setup) (b : Lent) (g : Going) where
  -- ---- what holds after a catch-up and after a piece holds after a pass
  module _ (P : Going → Type 0)
      (caught : (from end : Timestamp) → g.player.points ≡ Between from end → 0 < g.remaining → interval k s g.player g.remaining ≡ 0
      → P (going (loop_back k s from g.player) g))
      (piece : (n : ℕ) → interval k s g.player g.remaining ≡ suc n → suc n ≤ g.remaining → P (rendered k s b (suc n) g)) where
    each_caught : 0 < g.remaining → interval k s g.player g.remaining ≡ 0 → (q : Points) → g.player.points ≡ q → Each P (caught_up k s b q g)
    unfolding caught_up
    each_caught h z Absent e = tt
    each_caught h z (Between from end) e = caught from end e h z

    each_of : 0 < g.remaining → (n : ℕ) → interval k s g.player g.remaining ≡ n → Each P (pass_of k s b n g)
    unfolding pass_of
    each_of h zero e = each_caught h e g.player.points refl
    each_of h (suc n) e = piece n e (subst (λ (m : ℕ). m ≤ g.remaining) e (within_remaining k s g.player g.remaining))

    each_at : (r : ℕ) → g.remaining ≡ r → Each P (pass k s b r g)
    unfolding pass
    each_at zero e = tt
    each_at (suc r) e = each_of (omega arith) (interval k s g.player (suc r)) (ap (λ (m : ℕ). interval k s g.player m) e)

    pub each_pass : Each P (pass k s b g.remaining g)
    each_pass = each_at g.remaining refl

  -- ---- for code that makes it
  pub pass_spent : g.remaining ≡ 0 → Over k s b g
  unfolding pass
  pass_spent e = ap (λ (n : ℕ). pass k s b n g) e

  at_suc : (r : ℕ) → 0 < r → pass k s b r g ≡ pass_of k s b (interval k s g.player r) g
  unfolding pass
  at_suc zero h = absurd (omega arith)
  at_suc (suc r) h = refl

  pub pass_sounds : (n : ℕ) → interval k s g.player g.remaining ≡ n → 0 < n → pass k s b g.remaining g ≡ some (rendered k s b n g)
  unfolding pass_of
  pass_sounds zero e h = absurd (omega arith)
  pass_sounds (suc n) e h =
      let l = within_remaining k s g.player g.remaining in
      at_suc g.remaining (omega (arith, l, e)) ∙ ap (λ (m : ℕ). pass_of k s b m g) e

  pub pass_ends : 0 < g.remaining → g.player.points ≡ Absent → interval k s g.player g.remaining ≡ 0 → Over k s b g
  unfolding pass_of caught_up
  pass_ends h q e = at_suc g.remaining h ∙ ap (λ (m : ℕ). pass_of k s b m g) e ∙ ap (λ (y : Points). caught_up k s b y g) q
