-- Of every render that is not refused, of 1 frame or more: it applies exactly the events below the block's end, each at its frame, and no delay is below minus a frame and 8 units.
-- The idea: the definition's block is that block (`same_block`), and `Stands` holds the current time within half a unit an event of the frames rendered. Assumes nothing.
use mathlib.Core.Path.{◌≡◌, refl, sym, ap, ap₂, ◌∙◌, subst}
use mathlib.Core.Bool.{Bool, true, false, not, cond}
use mathlib.Core.List.{List, [], ◌∷◌}
use Prim.Native.Nat.{ℕ, suc, ◌+◌, ◌-◌, ◌*◌, ◌/◌, ◌^◌, ◌≤◌, ◌<◌}
use native.Mathlib.Nat.{le_trans, add-zero, mul-le-mul_right, add-mul, add_comm}
use native.Mathlib.Omega.{arith}
use borrow.Author.Tests.{not-false}
use lib.Dec.{T}
use lib.IntN.{ℤ, pos, negsuc, neg_ℤ, nat_abs, ◌-ℤ◌, ◌*ℤ◌}
use lib.ListN.{length}
use lib.Signed.{lt_z}
use lib.Ieee.{Float}
use Rattle.laws.specs.Rules.{within, first_broken}
use Rattle.laws.proofs.Tests.{both}
use Rattle.laws.proofs.Minus.{Minus, nat_minus, neg_minus, nlt_z_minus}
use Rattle.timestamp.proofs.Drift.{Drift}
use Rattle.timestamp.proofs.Event.{event_delay}
use Rattle.sampler_event.specs.declared.Event.{Event}
use Rattle.sampler_event.proofs.UpTo.{within_up}
use Rattle.event_processor.specs.Queue.{pending, in_order}
use Rattle.event_processor.proofs.Front.{rest_order}
use Rattle.event_processor.proofs.Ordered.{Ordered, ordered}
use Rattle.sampler_player.specs.declared.Setup.{Setup}
use Rattle.sampler_player.specs.Pieces.{Lent}
use Rattle.sampler_processor.specs.declared.Leg.{Leg}
use Rattle.sampler_processor.specs.Numbers.{render_order}
use Rattle.sampler_processor.specs.Block.{Running, opening, block_end, applied}
use Rattle.sampler_processor.specs.Calls.{Rendered, rendered_to, rendered_by, render}
use Rattle.sampler_processor.specs.AtFrames.{below, exact_frame, to_frame, delays, frame_and8, delay_above, delays_above, through_due, AtFrames}
use Rattle.sampler_processor.proofs.Admitted.{admitted}
use Rattle.sampler_processor.proofs.Below.{rest_none, waits, left_waits}
use Rattle.sampler_processor.proofs.Events.{Stands, event_done, event_now_lem, below_end, frame_ahead, stands_first, exact_is, stands_exact, same_block}
use Rattle.sampler_processor.proofs.Legs.{parts, queued}
use Rattle.sampler_processor.proofs.Renders.{ready}
use Rattle.sampler_processor.proofs.Turns.{length_pending}

-- ---- the delays

-- n − t, times R
times : (z : ℤ) (n t R : ℕ) → Minus z n t → Minus (z *ℤ pos R) (n * R) (t * R)
times (pos m) n t R h = sym (add-mul m t R) ∙ ap (λ (x : ℕ). x * R) h
times (negsuc m) n t R h = neg_minus (pos (suc m * R)) (t * R) (n * R) (sum (suc m) h)
  where
    sum : (k : ℕ) → n + k ≡ t → k * R + n * R ≡ t * R
    sum k e = sym (add-mul k n R) ∙ ap (λ (x : ℕ). x * R) (add_comm k n ∙ e)

above_is : (n t R : ℕ) → t * R < n * R + frame_and8 R → delay_above R (pos n -ℤ pos t) ≡ true
above_is n t R h =
    let x = neg_ℤ (pos (frame_and8 R)) in
    let y = (pos n -ℤ pos t) *ℤ pos R in
    go (lt_z x y)
    (nlt_z_minus x y 0 (frame_and8 R) (n * R) (t * R) (neg_minus (pos (frame_and8 R)) (frame_and8 R) 0 (add-zero (frame_and8 R))) (times (pos n -ℤ pos t) n t R (nat_minus n t)))
  where
    go : (b : Bool) → (T (not b) → n * R + frame_and8 R ≤ 0 + t * R) → b ≡ true
    go true f = refl
    go false f = absurd (let k = f tt in omega arith)

module _ (s : Setup) (b : Lent) (s0 : ℕ) (low : 8000 ≤ s.rate) (high : s.rate ≤ 96000) (some_frames : 0 < b.block) (few_frames : b.block ≤ 4096) where
  -- of an event at t, after at most 16 of them
  delay_is : (t lo k : ℕ) (r : Running) → k ≤ 16 → r.done ≡ (t - s0) * s.rate / 2 ^ 32 → Stands s b s0 low high some_frames few_frames lo k r → delay_above s.rate (r.now -ℤ pos t) ≡ true
  delay_is t lo k r q e j =
      subst (λ (z : ℤ). delay_above s.rate (z -ℤ pos t) ≡ true) (sym j.now)
      (above_is (s0 + j.u) t s.rate
      (late (t - s0) j.u (omega arith) (mul-le-mul_right s.rate q) (event_delay s.rate k (t - s0) j.u (subst (λ (y : ℕ). Drift s.rate k y j.u) e j.drift)).0))
    where
      late : (d u : ℕ) → t ≤ d + s0 → k * s.rate ≤ 16 * s.rate → 2 * (d * s.rate) < 2 * (u * s.rate) + 2 ^ 33 + k * s.rate → t * s.rate < (s0 + u) * s.rate + frame_and8 s.rate
      late d u h g f = let m : t * s.rate ≤ (d + s0) * s.rate = mul-le-mul_right s.rate h in omega arith

  delays_from : (l : List Event) (lo k : ℕ) (r : Running) → Ordered lo l → in_order l ≡ true → k + length l ≤ 16 → Stands s b s0 low high some_frames few_frames lo k r
      → delays_above s.rate (delays s b (pos s0) (below (block_end s b (pos s0)) l) r) ≡ true
  delays_from [] lo k r o a n i = refl
  delays_from (e ∷ es) lo k r o a n i =
      let end = block_end s b (pos s0) in
      next (below end es) (rest_none end e es a) (λ x j. delays_from es o.0 (suc k) x o.3 (rest_order (e ∷ es) a) (omega arith) j) (lt_z e.time.bits end) refl
    where
      next : (l : List Event) → (lt_z e.time.bits (block_end s b (pos s0)) ≡ false → l ≡ [])
          → ((x : Running) → Stands s b s0 low high some_frames few_frames o.0 (suc k) x → delays_above s.rate (delays s b (pos s0) l x) ≡ true)
          → (y : Bool) → lt_z e.time.bits (block_end s b (pos s0)) ≡ y → delays_above s.rate (delays s b (pos s0) (cond y (e ∷ l) l) r) ≡ true
      next l none ih false h = subst (λ (x : List Event). delays_above s.rate (delays s b (pos s0) x r) ≡ true) (sym (none h)) refl
      next l none ih true h =
          let j = stands_exact s b s0 low high some_frames few_frames e o.0 lo k r o.1 o.2 h (omega arith) i in
          let v = frame_ahead s b s0 low high some_frames few_frames o.0 lo k r o.2 (below_end s b s0 low high some_frames few_frames e o.0 o.1 h) i in
          let f = exact_frame s.rate (e.time.bits -ℤ pos s0) in
          let x = exact_is s b s0 low high some_frames few_frames e o.0 o.1 in
          let d : (applied s b (pos s0) e (to_frame s b (pos s0) e r)).done ≡ (o.0 - s0) * s.rate / 2 ^ 32 =
          event_done s b s0 e f r (subst (λ (y : ℕ). r.done ≤ y) (sym x) v.0) ∙ x in
          let p = applied s b (pos s0) e (to_frame s b (pos s0) e r) in
          both
          (ap₂ (λ (now at : ℤ). delay_above s.rate (now -ℤ at)) (sym (event_now_lem s b s0 e (to_frame s b (pos s0) e r))) o.1 ∙ delay_is o.0 o.0 (suc k) p (omega arith) d j)
          (ih p j)

-- ---- the law

-- from a start that is a natural number
module _ (l : Leg) (b : Lent) (out : List Float) (s0 : ℕ) (z : first_broken (render_order l b out (pos s0)) ≡ 0) (some_frames : 1 ≤ b.block) where
  from_number : AtFrames l b out (pos s0)
  unfolding render
  from_number =
      let s = l.setup in
      let q = l.queue in
      let m = admitted l b out (pos s0) z in
      let r = ready l b out (pos s0) m in
      let w = queued s q (parts l m.is_sound).queue in
      let o = ordered s.rate s.fade (pending q) w.each_one w.ordered in
      let n = le_trans (length_pending q) w.few in
      let e : render l b out (pos s0) ≡ rendered_to s (through_due l b out (pos s0)) =
      ap (λ (k : ℕ). rendered_by k l b out (pos s0)) z
      ∙ ap (rendered_to s) (same_block s b s0 r.slow r.fast some_frames r.block (pending q) q l.player out o w.ordered n) in
      record {
        answer = e;
        others = λ places. ap (λ (x : Rendered). pending x.answer.leg.queue) e ∙ (left_waits s (block_end s b (pos s0)) (pending q) q (waits s q (parts l m.is_sound).queue places)).0;
        delay =
            delays_from s b s0 r.slow r.fast some_frames r.block (pending q) 0 0 (opening l.player out (pos s0)) o w.ordered (omega arith)
            (stands_first s b s0 r.slow r.fast some_frames r.block l.player out 0);
      }

pub at_frames : (l : Leg) (b : Lent) (out : List Float) (start : ℤ) → first_broken (render_order l b out start) ≡ 0 → 1 ≤ b.block → AtFrames l b out start
at_frames l b out start z n =
    let u = within_up (2 ^ 48) start (not-false (within (pos 0) (pos (2 ^ 48)) start) (admitted l b out start z).begins) in
    subst (AtFrames l b out) (sym u.is) (from_number l b out (nat_abs start) (subst (λ (x : ℤ). first_broken (render_order l b out x) ≡ 0) u.is z) n)
