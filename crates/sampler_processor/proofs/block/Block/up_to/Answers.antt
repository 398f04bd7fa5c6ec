-- `sampler_processor::block::Block::up_to` meets its contract.
-- The idea: a segment counts its pieces on from those before it, and has no more of them than frames. Assumes nothing.
use mathlib.Core.Path.{◌≡◌, sym, ap, ◌∙◌, subst}
use Prim.Native.Nat.{ℕ, ◌+◌, ◌-◌, ◌≤◌}
use native.Mathlib.Omega.{arith}
use lib.IntN.{ℤ, ◌+ℤ◌}
use Rattle.timestamp.specs.Time.{time_of}
use Rattle.sampler_player.specs.Clock.{clock_at}
use Rattle.sampler_player.specs.Pieces.{Lent, Going, Segment, segment, lent_by}
use Rattle.sampler_player.specs.inner.Lending.{starting}
use Rattle.sampler_player.proofs.Counting.{segment_from}
use Rattle.sampler_processor.specs.Block.{up_to}
use Rattle.sampler_processor.proofs.Segments.{segment_pieces}
use Rattle.sampler_processor.proofs.block.Block.up_to.Goals as goal

pub overflow_add-result : goal.overflow_add-result
overflow_add-result c =
    let s = c.args.self.setup in
    let b = lent_by c.args.self.lent in
    let g : Going = starting c.args.at.player c.args.out.now c.args.at.done (c.args.frame - c.args.at.done) in
    let q : c.play_segment-played.result.pieces ≤ g.pieces + g.remaining =
    subst (λ (m : ℕ). m ≤ g.pieces + g.remaining) (sym (ap (λ (x : Segment). x.pieces) c.play_segment-played.ensures)) (segment_pieces (clock_at s.rate) s b g) in
    let few = c.args.self.lends.block in
    omega arith

pub returns : goal.returns
unfolding up_to
returns c =
    let a = c.args.at in
    let n = c.args.frame - a.done in
    let s = c.args.self.setup in
    let b : Lent = lent_by c.args.self.lent in
    let g : Going = record { player = a.player; out = c.args.out.now; at = a.done; remaining = n; pieces = 0 } in
    let h = segment (clock_at s.rate) s b g in
    let t = c.frames_later in
    ap (λ (x : Segment). record { player = x.player; out = x.out; done = c.args.frame; now = t.result.bits; pieces = a.pieces + x.pieces }) c.play_segment-played.ensures
    ∙ ap (λ (d : ℕ). record { player = h.player; out = h.out; done = d; now = t.result.bits; pieces = a.pieces + h.pieces }) (sym (there a.done c.args.frame c.requires.not_past))
    ∙ ap (λ (z : ℤ). record { player = h.player; out = h.out; done = a.done + n; now = z; pieces = a.pieces + h.pieces }) t.ensures
    ∙ ap (λ (x : Going). record { player = x.player; out = x.out; done = a.done + n; now = a.now.bits +ℤ time_of s.rate n; pieces = x.pieces })
    (sym (segment_from (clock_at s.rate) s b (record { player = a.player; out = c.args.out.now; at = a.done; remaining = n; pieces = a.pieces })))
  where
    there : (d f : ℕ) → d ≤ f → d + (f - d) ≡ f
    there d f h = omega arith
