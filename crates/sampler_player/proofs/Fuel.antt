-- The passes of a segment end by themselves, or more loops are completed than a sound leg has; once ended, more fuel changes nothing; and what a loop over the passes carries.
-- The idea: each pass lowers the frames that remain, or the loops that may still be completed. Assumes nothing.
use Prim.Native.Nat.{ℕ, zero, suc, ◌+◌, ◌-◌, ◌^◌, ◌≤◌, ◌<◌}
use native.Mathlib.Omega.{arith}
use native.Mathlib.Nat.{le_refl, le_trans, zero-add, suc-add, add_comm}
use mathlib.Core.Path.{◌≡◌, refl, ap, ◌∙◌, sym}
use mathlib.Core.Option.{Option, none, some}
use Rattle.sampler_player.specs.declared.Setup.{Setup}
use Rattle.sampler_player.specs.Clock.{Clock}
use Rattle.sampler_player.specs.Pieces.{Lent, Going, after, rendered, pass, passes, segment}
use Rattle.sampler_player.proofs.Assign.{back_completed}
use Rattle.sampler_player.proofs.Passes.{Each, each_pass, pass_spent}
pub use Rattle.sampler_player.proofs.Passes.{Over, within_remaining}

-- the frames that remain, and the loops that may still be completed
abbrev left : Going → ℕ
left g = g.remaining + (2 ^ 27 + 1 - g.player.completed)

record Onward (g h : Going) : Type 0 where
  grows : g.player.completed ≤ h.player.completed
  falls : g.player.completed ≤ 2 ^ 27 → left h < left g

module _ (k : Clock) (s : Setup) (b : Lent) where
  ahead_pass : (g : Going) → Each (Onward g) (pass k s b g.remaining g)
  unfolding rendered
  ahead_pass g =
      each_pass k s b g (Onward g)
      (λ from end q h z. let e = back_completed k s from g.player in record { grows = omega (arith, e); falls = λ c. omega (arith, e) })
      (λ n e h. record { grows = le_refl _; falls = λ c. omega arith })

  -- loops are only added
  grown : (go : Going → Going) → ((h : Going) → h.player.completed ≤ (go h).player.completed) → (g : Going) (o : Option Going) → Each (Onward g) o
      → g.player.completed ≤ (after go g o).player.completed
  grown go ih g none a = le_refl _
  grown go ih g (some h) a = le_trans a.grows (ih h)

  growing : (f : ℕ) (g : Going) → g.player.completed ≤ (passes k s b f g).player.completed
  unfolding passes
  growing zero g = le_refl _
  growing (suc f) g = grown (λ h. passes k s b f h) (growing f) g (pass k s b g.remaining g) (ahead_pass g)

  ends : (f : ℕ) (go : Going → Going)
      → ((h : Going) → h.player.completed ≤ (go h).player.completed)
      → ((h : Going) → left h ≤ f → (go h).player.completed ≤ 2 ^ 27 → Over k s b (go h))
      → (g : Going) (o : Option Going)
      → pass k s b g.remaining g ≡ o
      → Each (Onward g) o
      → left g ≤ suc f
      → (after go g o).player.completed ≤ 2 ^ 27
      → Over k s b (after go g o)
  ends f go more ih g none e a h c = e
  ends f go more ih g (some x) e a h c =
      let m : x.player.completed ≤ (go x).player.completed = more x in
      let n : g.player.completed ≤ x.player.completed = a.grows in
      let d : left x < left g = a.falls (omega arith) in
      ih x (omega arith) c

  ended : (f : ℕ) (g : Going) → left g ≤ f → (passes k s b f g).player.completed ≤ 2 ^ 27 → Over k s b (passes k s b f g)
  unfolding passes
  ended zero g h c = pass_spent k s b g (omega arith)
  ended (suc f) g h c =
      ends f (λ x. passes k s b f x) (growing f) (ended f) g (pass k s b g.remaining g) refl (ahead_pass g) h c

  -- a segment after which a sound number of loops is completed has ended
  pub segment_ended : (g : Going) → (segment k s b g).player.completed ≤ 2 ^ 27 → Over k s b (segment k s b g)
  unfolding segment
  segment_ended g c = ended (g.remaining + (2 ^ 27 + 1)) g (omega arith) c

  -- ---- once ended, more fuel changes nothing
  pub over_stays : (f : ℕ) (g : Going) → Over k s b g → passes k s b f g ≡ g
  unfolding passes
  over_stays zero g h = refl
  over_stays (suc f) g h = ap (after (λ x. passes k s b f x) g) h

  add_on : (f d : ℕ) → ((x : Going) → passes k s b (f + d) x ≡ passes k s b d (passes k s b f x)) → (g : Going) (o : Option Going)
      → pass k s b g.remaining g ≡ o
      → after (λ x. passes k s b (f + d) x) g o ≡ passes k s b d (after (λ x. passes k s b f x) g o)
  add_on f d ih g none e = sym (over_stays d g e)
  add_on f d ih g (some x) e = ih x

  pub passes_add : (f d : ℕ) (g : Going) → passes k s b (f + d) g ≡ passes k s b d (passes k s b f g)
  unfolding passes
  passes_add zero d g = ap (λ (n : ℕ). passes k s b n g) (zero-add d)
  passes_add (suc f) d g =
      ap (λ (n : ℕ). passes k s b n g) (suc-add f d) ∙ add_on f d (passes_add f d) g (pass k s b g.remaining g) refl

  pub more_fuel : (f d : ℕ) (g : Going) → Over k s b (passes k s b f g) → passes k s b (f + d) g ≡ passes k s b f g
  more_fuel f d g h = passes_add f d g ∙ over_stays d (passes k s b f g) h

  -- ---- what a loop in code over the passes carries: from g they come to z. It starts at `reach_start`, a pass is `reach_next`, some at once `reach_jump`, and `reach_end` its exit
  abbrev pub Reach : Going → Going → Type 0
  Reach g z = (f : ℕ) × (passes k s b f g ≡ z)

  pub reach_start : (g : Going) → Reach g (segment k s b g)
  unfolding segment
  reach_start g = (g.remaining + (2 ^ 27 + 1), refl)

  not_both : {X : Type 0} (h : Going) → ◌≡◌ {A = Option Going} none (some h) → X
  not_both h e = let z : ◌≡◌ {A = ℕ} 0 1 = cc in absurd (omega arith)

  reach_on : (f : ℕ) (g h z : Going) → passes k s b f g ≡ z → pass k s b g.remaining g ≡ some h → Over k s b z → Reach h z
  unfolding passes
  reach_on zero g h z e p o = not_both h (sym o ∙ ap (λ (x : Going). pass k s b x.remaining x) (sym e) ∙ p)
  reach_on (suc f) g h z e p o = (f, ap (after (λ x. passes k s b f x) g) (sym p) ∙ e)

  pub reach_next : (g h z : Going) → Reach g z → pass k s b g.remaining g ≡ some h → Over k s b z → Reach h z
  reach_next g h z r p o = reach_on r.0 g h z r.1 p o

  -- m passes at once: with fuel enough or not, z is where they come to
  pub reach_jump : (m : ℕ) (g h z : Going) → Reach g z → passes k s b m g ≡ h → Over k s b z → Reach h z
  reach_jump m g h z r p o = (
    r.0,
    ap (λ (x : Going). passes k s b r.0 x) (sym p) ∙ sym (passes_add m r.0 g) ∙ ap (λ (n : ℕ). passes k s b n g) (add_comm m r.0)
        ∙ passes_add r.0 m g ∙ ap (λ (x : Going). passes k s b m x) r.1 ∙ over_stays m z o,
  )

  pub reach_end : (g z : Going) → Reach g z → Over k s b g → g ≡ z
  reach_end g z r o = sym (over_stays r.0 g o) ∙ r.1
