-- `sampler_processor::block::Block::past_event` meets its contract.
-- The idea: the three steps are the definition's, each at what the one before it answered. Assumes nothing.
use mathlib.Core.Path.{◌≡◌, refl, ap, ◌∙◌}
use mathlib.Core.List.{List}
use Prim.Native.Nat.{ℕ}
use lib.IntN.{ℤ}
use lib.Ieee.{Float}
use Rattle.sampler_event.specs.declared.Event.{Event}
use Rattle.sampler_player.specs.declared.Setup.{Setup}
use Rattle.sampler_player.specs.Pieces.{Lent, lent_by}
use Rattle.sampler_processor.specs.declared.block.Stand.{Stand}
use Rattle.sampler_processor.specs.Block.{up_to, applied}
use Rattle.sampler_processor.specs.inner.Stands.{running, applied_to}
use Rattle.sampler_processor.proofs.block.Block.past_event.Goals as goal

-- an event applied where the block stands is the definition's
applied_is : (s : Setup) (b : Lent) (z : ℤ) (e : Event) (a : Stand) (out : List Float) → running (applied_to s.rate e a) out ≡ applied s b z e (running a out)
unfolding applied
applied_is s b z e a out = refl

pub returns : goal.returns
returns c =
    let s = c.args.self.setup in
    let b = lent_by c.args.self.lent in
    let start = c.args.self.start.bits in
    let e = c.args.event in
    let out = c.up_to-reached.new.out in
    ap (λ (a : Stand). running a out) c.applied_to.ensures
    ∙ applied_is s b start e c.up_to-reached.result out
    ∙ ap (applied s b start e)
    (c.up_to-reached.ensures ∙ ap (λ (f : ℕ). up_to s b start f (running c.args.at c.args.out.now)) c.event_frame-frame.ensures)
