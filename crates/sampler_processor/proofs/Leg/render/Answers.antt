-- `sampler_processor::Leg::render` meets its contract.
-- The idea: no refusal says that every rule holds, which is what a block asks; a block of no frames changes nothing, and one in which no event is due is one segment. Assumes nothing.
use Prim.Native.Nat.{◌^◌}
use mathlib.Core.Path.{refl, sym, ap, ◌∙◌}
use borrow.Author.Tests.{eq-eqb, ne_eqb, not-false}
use native.Mathlib.Omega.{arith}
use lib.IntN.{pos}
use Rattle.laws.specs.Rules.{number_of, within}
use Rattle.laws.proofs.Tests.{yes}
use Rattle.sampler_player.specs.Pieces.{Segment, lent_by}
use Rattle.sampler_processor.specs.inner.Stands.{Left}
use Rattle.sampler_processor.proofs.Admitted.{admitted}
use Rattle.sampler_processor.proofs.Legs.{parts}
use Rattle.sampler_processor.proofs.NoneDue.{rendered_on_lem}
use Rattle.sampler_processor.proofs.Renders.{ready, lends, near, rendered_still, rendered_block}
use Rattle.laws.proofs.Refusals.{not_zero}
use Rattle.sampler_processor.proofs.Leg.render.Goals as goal

pub returns-in-Err : goal.returns-in-Err
returns-in-Err c =
    let a = c.args in
    let r = c.in-Err.refusal in
    rendered_still a.self (lent_by a.lent) a.out.now a.start.bits (number_of r) c.in-Err.ensures (rw (ne_eqb (number_of r) 0 (not_zero r)) refl)

pub returns-then-lent-eq0 : goal.returns-then-lent-eq0
returns-then-lent-eq0 c =
    let a = c.args in
    rendered_still a.self (lent_by a.lent) a.out.now a.start.bits 0 c.in_default.ensures (eq-eqb a.lent.block 0 c.if-lent-eq0.true)

-- ---- what is known once nothing is refused

pub invariant_of-block : goal.invariant_of-block
invariant_of-block c =
    let a = c.args in
    let b = lent_by a.lent in
    let m = admitted a.self b a.out.now a.start.bits (sym c.in_default.ensures) in
    record {
      lends = lends a.self b a.out.now a.start.bits m;
      soon = yes (not-false (within (pos 0) (pos (2 ^ 48)) a.start.bits) m.begins);
    }

pub run-end-requires : goal.run-end-requires
run-end-requires c =
    let a = c.args in
    let b = lent_by a.lent in
    let m = admitted a.self b a.out.now a.start.bits (sym c.in_default.ensures) in
    record {
      fits = (ready a.self b a.out.now a.start.bits m).out;
      some_frames = omega arith;
      player_kept = near a.self b a.out.now a.start.bits m;
      queue_sound = (parts a.self m.is_sound).queue;
    }

pub returns-then-any_due : goal.returns-then-any_due
returns-then-any_due c =
    let a = c.args in
    ap (λ (x : Left). record { answer = record { number = 0; leg = record { setup = a.self.setup; player = x.end.player; queue = x.end.queue }; pieces = x.end.pieces }; out = x.out }) c.run-end.ensures
    ∙ rendered_block a.self (lent_by a.lent) a.out.now a.start.bits 0 c.in_default.ensures refl

pub whole-played-requires : goal.whole-played-requires
whole-played-requires c =
    let a = c.args in
    let b = lent_by a.lent in
    let m = admitted a.self b a.out.now a.start.bits (sym c.in_default.ensures) in
    record {
      fits = (ready a.self b a.out.now a.start.bits m).out;
      player_kept = near a.self b a.out.now a.start.bits m;
    }

pub returns : goal.returns
returns c =
    let a = c.args in
    let b = lent_by a.lent in
    ap (λ (x : Segment). record { answer = record { number = 0; leg = record { setup = a.self.setup; player = x.player; queue = a.self.queue }; pieces = x.pieces }; out = x.out }) c.whole-played.ensures
    ∙ rendered_on_lem a.self b a.out.now a.start.bits (sym c.any_due.ensures ∙ c.if-any_due.false)
    ∙ rendered_block a.self b a.out.now a.start.bits 0 c.in_default.ensures refl
