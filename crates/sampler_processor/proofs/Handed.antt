-- The leg that a render hands back is sound, if it was given a sound one.
-- The idea: through the block what plays stays within `kept`, and what waits on is the queue less its first events. Assumes nothing.
use mathlib.Core.Path.{◌≡◌, refl, sym, subst}
use mathlib.Core.Bool.{true}
use mathlib.Core.List.{List}
use Prim.Native.Nat.{ℕ, zero, suc, ◌-◌, ◌^◌, ◌≤◌, ◌<◌}
use native.Mathlib.Nat.{le_trans}
use native.Mathlib.Omega.{arith}
use borrow.Author.Tests.{not-false}
use lib.IntN.{ℤ, pos, nat_abs}
use lib.ListN.{length}
use lib.Ieee.{Float}
use Rattle.laws.specs.Rules.{first_broken, within}
use Rattle.sampler_event.proofs.UpTo.{within_up}
use Rattle.event_processor.specs.Queue.{pending}
use Rattle.event_processor.proofs.Ordered.{ordered}
use Rattle.sampler_player.specs.Pieces.{Lent}
use Rattle.sampler_player.specs.inner.Kept.{kept}
use Rattle.sampler_player.proofs.Enough.{segment_kept}
use Rattle.sampler_player.proofs.Applied.{apply_kept}
use Rattle.sampler_player.proofs.Sound.{kept_good}
use Rattle.sampler_processor.specs.declared.Leg.{Leg}
use Rattle.sampler_processor.specs.Numbers.{queue_good, render_order, sound}
use Rattle.sampler_processor.specs.Block.{Ended, opening, block_end, block}
use Rattle.sampler_processor.specs.Calls.{rendered_to, rendered_by, render}
use Rattle.sampler_processor.proofs.Admitted.{Admitted, admitted}
use Rattle.sampler_processor.proofs.Legs.{parts, whole, queued}
use Rattle.sampler_processor.proofs.Below.{waits, waits_good, left_waits}
use Rattle.sampler_processor.proofs.Events.{same_block}
use Rattle.sampler_processor.proofs.Blocks.{kept_through}
use Rattle.sampler_processor.proofs.Turns.{all_fit, length_pending}
use Rattle.sampler_processor.proofs.NoFrames.{no_frames}
use Rattle.sampler_processor.proofs.Renders.{ready, near}

module _ (l : Leg) (h : sound l ≡ true) (places : length l.queue.events ≡ 16) (b : Lent) (out : List Float) where
  abbrev through : ℤ → Ended
  through start = block l.setup b start (pending l.queue) l.queue (opening l.player out start)

  block_sound : (s0 : ℕ) → Admitted l b out (pos s0) → s0 ≤ 2 ^ 48 → 0 < b.block → sound (rendered_to l.setup (through (pos s0))).answer.leg ≡ true
  block_sound s0 a soon some =
      let s = l.setup in
      let q = l.queue in
      let r = ready l b out (pos s0) a in
      let w = queued s q (parts l h).queue in
      let o = ordered s.rate s.fade (pending q) w.each_one w.ordered in
      let n = le_trans (length_pending q) w.few in
      whole (rendered_to s (through (pos s0))).answer.leg
      (record {
        sizes = (parts l h).sizes;
        player =
            kept_good s (through (pos s0)).running.player
            (subst (λ (x : ℕ). kept s x (through (pos s0)).running.player ≡ true) (spent b.block)
            (kept_through s b s0 r.slow r.fast some r.block soon (λ x g i small k. segment_kept s b r.slow r.fast r.table x small g i k)
            (λ x e z p small f d k. apply_kept s x r.fast small e z p f.0 f.1 d k) (pending q) q l.player out o w.ordered
            (all_fit s (pending q) w.each_one) n (near l b out (pos s0) a)));
        queue =
            subst (λ (z : Ended). queue_good s z.queue ≡ true) (sym (same_block s b s0 r.slow r.fast some r.block (pending q) q l.player out o w.ordered n))
            (waits_good s _ _ (left_waits s (block_end s b (pos s0)) (pending q) q (waits s q (parts l h).queue places)));
      })
    where
      spent : (n : ℕ) → n - n ≡ 0
      spent n = omega arith

  pub render_sound : (start : ℤ) → sound (render l b out start).answer.leg ≡ true
  unfolding render
  render_sound start = go (first_broken (render_order l b out start)) refl
    where
      frames : Admitted l b out start → (n : ℕ) → b.block ≡ n → sound (rendered_to l.setup (through start)).answer.leg ≡ true
      frames a zero e =
          let r = ready l b out start a in
          subst (λ (z : Ended). sound (rendered_to l.setup z).answer.leg ≡ true) (sym (no_frames l.setup b start r.slow r.fast e (pending l.queue) l.queue l.player out)) h
      frames a (suc n) e =
          let u = within_up (2 ^ 48) start (not-false (within (pos 0) (pos (2 ^ 48)) start) a.begins) in
          subst (λ (z : ℤ). sound (rendered_to l.setup (through z)).answer.leg ≡ true) (sym u.is)
          (block_sound (nat_abs start) (subst (λ (z : ℤ). Admitted l b out z) u.is a) u.most (omega arith))

      go : (k : ℕ) → first_broken (render_order l b out start) ≡ k → sound (rendered_by k l b out start).answer.leg ≡ true
      go zero z = frames (admitted l b out start z) b.block refl
      go (suc k) z = h
