-- The block's loop as the code has it: what it starts from, what an event that is due is given, and what the loop's end leaves.
-- The idea: it carries a `Turn` from a start that is a natural number, with the block's end and the output of now. Assumes nothing.
use mathlib.Core.Path.{◌≡◌, sym, ap, ◌∙◌, subst}
use mathlib.Core.Bool.{true}
use mathlib.Core.List.{List}
use Prim.Native.Nat.{ℕ, ◌-◌, ◌^◌, ◌≤◌, ◌<◌}
use native.Mathlib.Nat.{le_of_lt}
use lib.Dec.{T}
use lib.IntN.{ℤ, pos, nat_abs}
use lib.ListN.{length}
use lib.Ieee.{Float}
use Rattle.laws.specs.Rules.{within}
use Rattle.timestamp.specs.declared.Timestamp.{Timestamp}
use Rattle.sampler_event.specs.declared.Event.{Event}
use Rattle.event_processor.specs.declared.Queue.{Queue}
use Rattle.std.specs.Prelude.{None, Some}
use Rattle.event_processor.specs.Queue.{pending, first_before, without}
use Rattle.sampler_player.specs.declared.Setup.{Setup}
use Rattle.sampler_player.specs.declared.Player.{Player}
use Rattle.sampler_player.specs.Pieces.{Lent}
use Rattle.sampler_player.specs.inner.Kept.{kept}
use Rattle.sampler_processor.specs.declared.block.Stand.{Stand}
use Rattle.sampler_processor.specs.Numbers.{queue_good}
use Rattle.sampler_processor.specs.Block.{Running, Ended, opening, block_end, up_to, past, block}
use Rattle.sampler_processor.specs.inner.Stands.{Lends, running, Reaches, left_of}
use Rattle.sampler_processor.proofs.Times.{up_to_lem, up_within}
use Rattle.sampler_processor.proofs.Turns.{Turn, turn_first, turn_due, turn_last, now_up, pieces_few}

-- ---- what the loop carries: Z is the block's end by the definition
pub record Loop (s : Setup) (b : Lent) (start end : Timestamp) (Z : Ended) (q : Queue) (at : Stand) (out : List Float) : Type 0 where
  pub s0 : ℕ
  pub begins : start.bits ≡ pos s0
  pub ends : end.bits ≡ block_end s b start.bits
  pub turn : Turn s b s0 Z q (running at out)

pub loop_first : (s : Setup) (b : Lent) (start end : Timestamp) (q : Queue) (p : Player) (out : List Float) → Lends s b → 0 < b.block
    → T (within (pos 0) (pos (2 ^ 48)) start.bits) → end.bits ≡ block_end s b start.bits → kept s b.block p ≡ true → queue_good s q ≡ true → length q.events ≡ 16
    → Loop s b start end (block s b start.bits (pending q) q (opening p out start.bits)) q (record { player = p; done = 0; now = start; pieces = 0 }) out
loop_first s b start end q p out z some from ends k g sixteen =
    let u = up_to_lem (2 ^ 48) start.bits from in
    let s0 = nat_abs start.bits in
    record {
      s0 = s0;
      begins = u.is;
      ends = ends;
      turn =
          subst (λ (i : ℤ). Turn s b s0 (block s b i (pending q) q (opening p out i)) q (opening p out i)) (sym u.is)
          (turn_first s b s0 q p out z.slow z.fast some z.block z.table u.most k g sixteen);
    }

module _ (s : Setup) (b : Lent) (start end : Timestamp) (Z : Ended) (q : Queue) (at : Stand) (out : List Float) (v : Loop s b start end Z q at out) where
  abbrev here : Running
  here = running at out

  -- whatever the block's end finds, it finds from the start as a number
  from_number : {A : Type 0} (f : ℤ → A) {a : A} → f end.bits ≡ a → f (block_end s b (pos v.s0)) ≡ a
  from_number f h = ap f (sym (v.ends ∙ ap (block_end s b) v.begins)) ∙ h

  -- ---- an event is due
  module _ (e : Event) (due : first_before end.bits (pending q) ≡ Some e) where
    pub loop_due : Reaches s b start.bits e here
    loop_due =
        let t = turn_due s b v.s0 Z q here v.turn e (from_number (λ z. first_before z (pending q)) due) in
        subst (λ (z : ℤ). Reaches s b z e here) (sym v.begins) t.reaches

    pub loop_next : (r : Queue) (to : Stand) (next : List Float) → r ≡ without q → running to next ≡ past s b start.bits e here → Loop s b start end Z r to next
    loop_next r to next left is =
        let t = turn_due s b v.s0 Z q here v.turn e (from_number (λ z. first_before z (pending q)) due) in
        record {
          s0 = v.s0;
          begins = v.begins;
          ends = v.ends;
          turn =
              subst (λ (p : Queue). Turn s b v.s0 Z p (running to next)) (sym left)
              (subst (Turn s b v.s0 Z (without q)) (sym (is ∙ ap (λ (z : ℤ). past s b z e here) v.begins)) t.next);
        }

  -- ---- the loop's end

  -- what the last frames ask
  pub loop_last : (at.done ≤ b.block) × (kept s (b.block - at.done) at.player ≡ true) × T (within (pos 0) (pos (2 ^ 49)) at.now.bits) × (at.pieces ≤ 2 ^ 32)
  loop_last =
      let u = v.turn in
      (le_of_lt u.at.inside, u.inside, up_within (2 ^ 49) at.now.bits (now_up s b v.s0 Z q here u), pieces_few s b v.s0 Z q here u)

  pub loop_end_lem : first_before end.bits (pending q) ≡ None → (last : Stand) (next : List Float) → running last next ≡ up_to s b start.bits b.block here
      → record { end = record { player = last.player; queue = q; pieces = last.pieces }; out = next } ≡ left_of Z
  loop_end_lem none last next is =
      ap (λ (r : Running). left_of (record { running = r; queue = q })) (is ∙ ap (λ (z : ℤ). up_to s b z b.block here) v.begins)
      ∙ ap left_of (sym (turn_last s b v.s0 Z q here v.turn (from_number (λ z. first_before z (pending q)) none)))
