-- A segment keeps `kept`, and its bound on the passes never ends it.
-- The idea: each pass keeps it (Pass), with all that remains and some frames X after it. Assumes nothing.
use Prim.Native.Nat.{ℕ, zero, suc, ◌+◌, ◌-◌, ◌^◌, ◌≤◌}
use native.Mathlib.Omega.{arith}
use mathlib.Core.Path.{◌≡◌, subst}
use mathlib.Core.Bool.{true}
use mathlib.Core.Option.{Option, none, some}
use lib.ListN.{length}
use Rattle.sampler_player.specs.declared.Setup.{Setup}
use Rattle.sampler_player.specs.Clock.{clock_at}
use Rattle.sampler_player.specs.Pieces.{Lent, Going, after, rendered, pass, passes, segment}
use Rattle.sampler_player.specs.inner.Kept.{kept}
use Rattle.sampler_player.proofs.Fuel.{segment_ended}
use Rattle.sampler_player.proofs.Passes.{Over, Each, each_pass}
use Rattle.sampler_player.proofs.Kept.{opened, loops_opened}
use Rattle.sampler_player.proofs.Assigned.{kept_less}
use Rattle.sampler_player.proofs.Pass.{caught_few, back_kept, rendered_kept}

-- kept with all that remains, and X frames after it
pub record Sound (s : Setup) (X : ℕ) (g : Going) : Type 0 where
  pub is : kept s (g.remaining + X) g.player ≡ true
  pub few : g.remaining + X ≤ 4096

module _ (s : Setup) (b : Lent) (lo : 8000 ≤ s.rate) (hi : s.rate ≤ 96000) (table : length b.table ≡ s.fade) where
  -- ---- passes
  module _ (X : ℕ) where
    piece_sound : (n : ℕ) (g : Going) → suc n ≤ g.remaining → Sound s X g → Sound s X (rendered (clock_at s.rate) s b (suc n) g)
    unfolding rendered
    piece_sound n g h i = record { is = held; few = fewer }
      where
        split : g.remaining + X ≡ suc n + (g.remaining - suc n + X)
        split = omega arith

        held : kept s (g.remaining - suc n + X) (rendered (clock_at s.rate) s b (suc n) g).player ≡ true
        held = rendered_kept s b lo hi table (g.remaining - suc n + X) (suc n) g (omega arith) (subst (λ (y : ℕ). y ≤ 4096) split i.few) (subst (λ (y : ℕ). kept s y g.player ≡ true) split i.is)

        fewer : g.remaining - suc n + X ≤ 4096
        fewer = let f = i.few in omega (arith, f)

    pub pass_sound : (g : Going) → Sound s X g → Each (Sound s X) (pass (clock_at s.rate) s b g.remaining g)
    pass_sound g i =
        each_pass (clock_at s.rate) s b g (Sound s X)
        (λ from end q h z.
        let f = i.few in
        let c = caught_few s b lo hi (g.remaining + X) g.remaining from end g.player f h (omega arith) i.is q z in
        record { is = back_kept s b lo hi (g.remaining + X) from end g.player f q (omega (arith, c)) i.is; few = f })
        (λ n e h. piece_sound n g h i)

    onward : (go : Going → Going) → ((h : Going) → Sound s X h → Sound s X (go h)) → (g : Going) (o : Option Going) → Sound s X g → Each (Sound s X) o → Sound s X (after go g o)
    onward go ih g none i n = i
    onward go ih g (some h) i n = ih h n

    pub passes_sound : (f : ℕ) (g : Going) → Sound s X g → Sound s X (passes (clock_at s.rate) s b f g)
    unfolding passes
    passes_sound zero g i = i
    passes_sound (suc f) g i =
        onward (λ h. passes (clock_at s.rate) s b f h) (passes_sound f) g (pass (clock_at s.rate) s b g.remaining g) i (pass_sound g i)

    segment_sound : (g : Going) → Sound s X g → Sound s X (segment (clock_at s.rate) s b g)
    unfolding segment
    segment_sound g i = passes_sound (g.remaining + (2 ^ 27 + 1)) g i

  -- ---- a segment, of frames of the x that are still to come
  module _ (x : ℕ) (small : x ≤ 4096) (g : Going) (inside : g.remaining ≤ x) (k : kept s x g.player ≡ true) where
    pub starts : Sound s (x - g.remaining) g
    starts = record { is = subst (λ (y : ℕ). kept s y g.player ≡ true) split k; few = omega arith }
      where
        split : x ≡ g.remaining + (x - g.remaining)
        split = omega arith

    segment_sounds : Sound s (x - g.remaining) (segment (clock_at s.rate) s b g)
    segment_sounds = segment_sound (x - g.remaining) g starts

    pub segment_kept : kept s (x - g.remaining) (segment (clock_at s.rate) s b g).player ≡ true
    segment_kept =
        let i = segment_sounds in
        let z = segment (clock_at s.rate) s b g in
        kept_less s (z.remaining + (x - g.remaining)) (x - g.remaining) z.player (omega arith) i.few i.is

    pub segment_few : (segment (clock_at s.rate) s b g).player.completed ≤ 2 ^ 27
    segment_few =
        let z = (segment (clock_at s.rate) s b g).player in
        (loops_opened s z (opened s (x - g.remaining) z segment_kept).loops).few

    -- the bound on the passes is never what ends it
    pub segment_over : Over (clock_at s.rate) s b (segment (clock_at s.rate) s b g)
    segment_over = segment_ended (clock_at s.rate) s b g segment_few
