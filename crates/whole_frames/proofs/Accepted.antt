-- What a render that is not refused has been given: sizes in range, at most 4,096 frames, a start and a position within their limits, and events that are admissible and in order.
-- The idea: no rule of its order is broken (`Admitted`), and each is a bound. Assumes nothing.
use Prim.Native.Nat.{◌^◌, ◌≤◌}
use mathlib.Core.Path.{◌≡◌}
use mathlib.Core.Bool.{true, false, ◌&&◌}
use mathlib.Core.List.{List}
use native.Mathlib.Omega.{arith}
use borrow.Author.Tests.{ltb-false, not-false}
use lib.Dec.{ltb}
use lib.IntN.{ℤ, pos, neg_ℤ}
use lib.ListN.{length, length-take}
use lib.Signed.{lt_z}
use lib.Ieee.{Float}
use Rattle.laws.specs.Rules.{within, first_broken}
use Rattle.sampler_event.specs.Limits.{admissible}
use Rattle.sampler_event.proofs.UpTo.{UpTo, within_up}
use Rattle.event_processor.specs.Queue.{pending, each}
use Rattle.event_processor.proofs.Ordered.{Ordered, ordered}
use Rattle.sampler_player.specs.declared.Setup.{Setup}
use Rattle.sampler_player.specs.declared.Player.{Player}
use Rattle.sampler_player.specs.Pieces.{Lent}
use Rattle.sampler_player.specs.Sound.{active_good, voices_good, loop_good, player_good, any_far}
use Rattle.laws.proofs.Tests.{other_of, neither}
use Rattle.sampler_processor.specs.declared.Leg.{Leg}
use Rattle.sampler_processor.specs.Numbers.{render_order}
use Rattle.sampler_processor.proofs.Sizes.{Sized, sized}
use Rattle.sampler_processor.proofs.Legs.{parts, queued}
use Rattle.sampler_processor.proofs.Admitted.{admitted}

pub record Accepted (l : Leg) (b : Lent) (start : ℤ) : Type 0 where
  pub sizes : Sized l.setup
  pub few_frames : b.block ≤ 4096
  pub from : UpTo (2 ^ 48) start
  pub position : lt_z (pos (2 ^ 48)) l.player.position.bits ≡ false
  pub loops : loop_good l.setup l.player ≡ true
  pub ordered : Ordered 0 (pending l.queue)
  pub few_events : length (pending l.queue) ≤ 16
  pub events : each (admissible l.setup.rate l.setup.fade) (pending l.queue) ≡ true

loops_of : (s : Setup) (p : Player) → player_good s p ≡ true → loop_good s p ≡ true
unfolding player_good
loops_of s p h =
    let a = active_good p.active p.voices && voices_good s.fade p.voices in
    let z = within (neg_ℤ (pos (2 ^ 20))) (pos (2 ^ 49)) p.position.bits in
    other_of z (loop_good s p) (other_of a (z && loop_good s p) h)

pub accepted : (l : Leg) (b : Lent) (out : List Float) (start : ℤ) → first_broken (render_order l b out start) ≡ 0 → Accepted l b start
accepted l b out start h =
    let r = admitted l b out start h in
    let p = parts l r.is_sound in
    let q = queued l.setup l.queue p.queue in
    let n = length-take l.queue.count l.queue.events in
    let few = q.few in
    record {
      sizes = sized l.setup p.sizes;
      few_frames = ltb-false 4096 b.block (neither (ltb 4096 b.block) _ r.block).0;
      from = within_up (2 ^ 48) start (not-false (within (pos 0) (pos (2 ^ 48)) start) r.begins);
      position = (neither (lt_z (pos (2 ^ 48)) l.player.position.bits) (any_far l.player.voices) r.near).0;
      loops = loops_of l.setup l.player p.player;
      ordered = ordered l.setup.rate l.setup.fade (pending l.queue) q.each_one q.ordered;
      few_events = omega (arith, n, few);
      events = q.each_one;
    }
