-- "Passes that only catch up stay below 2^27": in every segment that a sound leg's render comes to, of however many passes.
-- The idea: one that catches up adds one to the completed loops, and leaves them below 2^27; a leg that has more already comes to none. Assumes nothing.
use Prim.Native.Nat.{ℕ, zero, suc, ◌+◌, ◌-◌, ◌^◌, ◌≤◌, ◌<◌}
use native.Mathlib.Omega.{arith}
use mathlib.Core.Path.{◌≡◌, sym, subst}
use mathlib.Core.Bool.{true}
use mathlib.Core.Option.{Option, none, some}
use lib.ListN.{length}
use Rattle.timestamp.specs.declared.Timestamp.{Timestamp}
use Rattle.sampler_player.specs.declared.Points.TheVariants.{Between}
use Rattle.sampler_player.specs.declared.Setup.{Setup}
use Rattle.sampler_player.specs.Clock.{clock_at}
use Rattle.sampler_player.specs.Pieces.{Lent, Going, interval, loop_back, count_then, idle_of, rendered, pass, catch_ups}
use Rattle.sampler_player.specs.inner.Kept.{kept}
use Rattle.sampler_player.proofs.Assign.{back_completed}
use Rattle.sampler_player.proofs.Passes.{going, Each, each_pass}
use Rattle.sampler_player.proofs.Pass.{caught_few}
use Rattle.sampler_player.proofs.Enough.{Sound, pass_sound, starts}

-- n passes that catch up from g on: if there are any, the loops are below 2^27 after them
abbrev Few : Going → ℕ → Type 0
Few g n = 0 < n → g.player.completed + n < 2 ^ 27

module _ (s : Setup) (b : Lent) (lo : 8000 ≤ s.rate) (hi : s.rate ≤ 96000) (table : length b.table ≡ s.fade) (X : ℕ) where
  -- a pass from g to h, and n that catch up from h on
  abbrev Adds : Going → Going → Type 0
  Adds g h = (n : ℕ) → Few h n → Few g (idle_of (g.remaining - h.remaining) n)

  pass_adds : (g : Going) → Sound s X g → Each (Adds g) (pass (clock_at s.rate) s b g.remaining g)
  unfolding rendered
  pass_adds g i =
      each_pass (clock_at s.rate) s b g (Adds g)
      (λ from end q h z n f. subst (λ (d : ℕ). Few g (idle_of d n)) (sym none_rendered) (λ p. one_more from end q h z n f))
      (λ m e h n f. subst (λ (d : ℕ). Few g (idle_of d n)) (sym (some_rendered m h)) f)
    where
      none_rendered : g.remaining - g.remaining ≡ 0
      none_rendered = omega arith

      some_rendered : (m : ℕ) → suc m ≤ g.remaining → g.remaining - (g.remaining - suc m) ≡ suc m
      some_rendered m h = omega arith

      one_more : (from end : Timestamp) → g.player.points ≡ Between from end → 0 < g.remaining → interval (clock_at s.rate) s g.player g.remaining ≡ 0
          → (n : ℕ) → Few (going (loop_back (clock_at s.rate) s from g.player) g) n → g.player.completed + suc n < 2 ^ 27
      one_more from end q h z zero f = caught_few s b lo hi (g.remaining + X) g.remaining from end g.player i.few h (omega arith) i.is q z
      one_more from end q h z (suc n) f =
          let c = back_completed (clock_at s.rate) s from g.player in
          let k = f (omega arith) in
          omega (arith, c, k)

  on : (count : Going → ℕ) → ((h : Going) → Sound s X h → Few h (count h)) → (g : Going) (o : Option Going) → Each (Sound s X) o → Each (Adds g) o → Few g (count_then count g o)
  on count ih g none i a = λ p. absurd (omega arith)
  on count ih g (some h) i a = a (count h) (ih h i)

  few : (f : ℕ) (g : Going) → Sound s X g → Few g (catch_ups (clock_at s.rate) s b f g)
  unfolding catch_ups
  few zero g i = λ p. absurd (omega arith)
  few (suc f) g i =
      on (λ h. catch_ups (clock_at s.rate) s b f h) (few f) g (pass (clock_at s.rate) s b g.remaining g)
      (pass_sound s b lo hi table X g i) (pass_adds g i)

module _ (s : Setup) (b : Lent) (lo : 8000 ≤ s.rate) (hi : s.rate ≤ 96000) (table : length b.table ≡ s.fade) where
  -- a segment of frames of the x that are still to come, as in proofs/Enough; with `segment`'s own bound for f it is the whole segment
  pub catch_ups_few : (x : ℕ) → x ≤ 4096 → (g : Going) → g.remaining ≤ x → kept s x g.player ≡ true → (f : ℕ) → catch_ups (clock_at s.rate) s b f g < 2 ^ 27
  catch_ups_few x small g inside k f =
      below (catch_ups (clock_at s.rate) s b f g) (few s b lo hi table (x - g.remaining) f g (starts s b lo hi table x small g inside k))
    where
      below : (n : ℕ) → Few g n → n < 2 ^ 27
      below zero h = omega arith
      below (suc n) h = let l = h (omega arith) in omega (arith, l)
