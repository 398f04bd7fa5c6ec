-- What a render that is not refused gives its block, and what a render answers by what its parts answered.
-- The idea: 0 says that no rule of the order is broken, and a block of no frames changes nothing. Assumes nothing.
use Prim.Native.Nat.{ℕ, zero, suc, ◌*◌, ◌≤◌}
use mathlib.Core.Path.{◌≡◌, refl, sym, ap, ◌∙◌, subst}
use mathlib.Core.Bool.{true, ◌||◌, not}
use mathlib.Core.List.{List}
use borrow.Author.Tests.{ltb-false, eqb-true, not-false}
use lib.Dec.{eqb, ltb}
use lib.IntN.{ℤ}
use lib.ListN.{length}
use lib.Ieee.{Float}
use Rattle.laws.specs.Rules.{first_broken}
use Rattle.event_processor.specs.Queue.{pending}
use Rattle.sampler_player.specs.Pieces.{Lent}
use Rattle.sampler_player.specs.inner.Lending.{Ready}
use Rattle.sampler_player.specs.inner.Kept.{kept}
use Rattle.sampler_player.proofs.Sound.{good_kept}
use Rattle.sampler_processor.specs.declared.Leg.{Leg}
use Rattle.sampler_processor.specs.Numbers.{recording_long, fade_long, render_order}
use Rattle.sampler_processor.specs.Calls.{Rendered, rendered_to, rendered_by, render}
use Rattle.sampler_processor.specs.inner.Stands.{Lends}
use Rattle.sampler_processor.proofs.Admitted.{Admitted, admitted}
use Rattle.sampler_processor.proofs.Legs.{parts, sound_sized}
use Rattle.laws.proofs.Tests.{neither}
use Rattle.sampler_processor.proofs.Sizes.{channels_in}
use Rattle.sampler_processor.proofs.NoFrames.{no_frames}

module _ (l : Leg) (b : Lent) (out : List Float) (start : ℤ) where
  -- ---- what a block is given

  pub few : Admitted l b out start → b.block ≤ 4096
  few a = ltb-false 4096 b.block (neither (ltb 4096 b.block) _ a.block).0

  pub ready : Admitted l b out start → Ready l.setup b out
  ready a =
      let s = l.setup in
      let z = sound_sized l a.is_sound in
      let c = channels_in b.channels a.channels in
      let t = neither (fade_long (length b.table)) (not (eqb (length b.table) s.fade)) a.table in
      let r = neither (recording_long s.frames) (not (eqb (length b.recording) (s.channels * s.frames))) a.recording in
      let o = neither (ltb 4096 b.block) (not (eqb (length out) (b.channels * b.block))) a.block in
      record {
        slow = z.rate_low;
        fast = z.rate_high;
        one = z.channels_low;
        two = z.channels_high;
        short = z.frames_high;
        one_out = c.0;
        two_out = c.1;
        block = few a;
        recording = eqb-true (length b.recording) (s.channels * s.frames) (not-false _ r.1);
        table = eqb-true (length b.table) s.fade (not-false _ t.1);
        out = eqb-true (length out) (b.channels * b.block) (not-false _ o.1);
      }

  pub lends : Admitted l b out start → Lends l.setup b
  lends a =
      let r = ready a in
      record {
        slow = r.slow;
        fast = r.fast;
        one = r.one;
        two = r.two;
        short = r.short;
        one_out = r.one_out;
        two_out = r.two_out;
        block = r.block;
        recording = r.recording;
        table = r.table;
      }

  pub near : Admitted l b out start → kept l.setup b.block l.player ≡ true
  near a = good_kept l.setup b.block l.player (few a) (parts l a.is_sound).player a.near

  -- ---- what a render answers

  as_it_was : ℕ → Rendered
  as_it_was n = record { answer = record { number = n; leg = l; pieces = 0 }; out = out }

  -- a refusal, or a block of no frames
  pub rendered_still : (n : ℕ) → n ≡ first_broken (render_order l b out start) → (not (eqb n 0) || eqb b.block 0) ≡ true
      → record { answer = record { number = n; leg = l; pieces = 0 }; out = out } ≡ render l b out start
  unfolding render as_it_was
  rendered_still n e t = ap as_it_was e ∙ go (first_broken (render_order l b out start)) refl (subst (λ (m : ℕ). (not (eqb m 0) || eqb b.block 0) ≡ true) e t)
    where
      go : (k : ℕ) → first_broken (render_order l b out start) ≡ k → (not (eqb k 0) || eqb b.block 0) ≡ true → as_it_was k ≡ rendered_by k l b out start
      go zero z t =
          let w = sound_sized l (admitted l b out start z).is_sound in
          ap (rendered_to l.setup) (sym (no_frames l.setup b start w.rate_low w.rate_high (eqb-true b.block 0 t) (pending l.queue) l.queue l.player out))
      go (suc k) z t = refl

  -- a block
  pub rendered_block : (n : ℕ) → n ≡ first_broken (render_order l b out start) → n ≡ 0 → rendered_by 0 l b out start ≡ render l b out start
  unfolding render
  rendered_block n e z = ap (λ (k : ℕ). rendered_by k l b out start) (sym z ∙ e)
