-- `sampler_processor::block::Block::event_frame` meets its contract.
-- The idea: the branch is the definition's `later`, and the difference of two times of a block is answered. Assumes nothing.
use Prim.Native.Nat.{ℕ, ◌^◌}
use mathlib.Core.Path.{◌≡◌, sym, ap, ◌∙◌}
use mathlib.Core.Bool.{Bool, true, false, cond}
use lib.Dec.{lit≤}
use lib.IntN.{ℤ, ◌-ℤ◌}
use lib.Signed.{lt_z}
use mir.Syntax.{w64}
use mir.Val.{SFits}
use Rattle.timestamp.specs.declared.Timestamp.{Timestamp}
use Rattle.timestamp.specs.Time.{frame_at, later}
use Rattle.timestamp.specs.Answer.{told, taken, minus}
use Rattle.timestamp.proofs.Told.{is_ok, is_time}
use Rattle.sampler_event.proofs.UpTo.{UpTo}
use Rattle.sampler_processor.specs.Block.{frame_of}
use Rattle.sampler_processor.proofs.Times.{difference_taken, apart_fits, up_to_lem, up_more}
use Rattle.sampler_processor.proofs.block.Block.event_frame.Goals as goal
use Rattle.sampler_processor.proofs.block.Block.event_frame.Goals.{After-sub, then-is_before, else-is_before}

-- the later of two times of a block is one of them
one_of : (t : Bool) (a b : ℤ) {m : ℕ} → UpTo m a → UpTo m b → UpTo m (cond t b a)
one_of true a b u v = v
one_of false a b u v = u

apart : (c : After-sub) → told c.sub.result ≡ taken (later c.args.time.bits c.args.now.bits -ℤ c.args.self.start.bits)
apart c =
    let i = c.is_before.ensures in
    let time = c.args.time.bits in
    let now = c.args.now.bits in
    let start = c.args.self.start.bits in
    let e : c.if-is_before.at.bits ≡ later time now =
    elim c.if-is_before.branch [
      | then-is_before w ↦ ap (λ (t : Timestamp). t.bits) w.at-is ∙ ap (λ (b : Bool). cond b now time) (sym (sym i ∙ w.if-is_before.true))
      | else-is_before w ↦ ap (λ (t : Timestamp). t.bits) w.at-is ∙ ap (λ (b : Bool). cond b now time) (sym (sym i ∙ w.if-is_before.false))
    ] in
    let u = one_of (lt_z time now) time now (up_to_lem _ time c.requires.time_within) (up_to_lem _ now c.requires.now_within) in
    let f : SFits w64 (later time now -ℤ start) = apart_fits (later time now) start u (up_more (2 ^ 48) (2 ^ 49) start (lit≤ tt) (up_to_lem (2 ^ 48) start c.args.self.soon)) in
    c.sub.ensures ∙ ap (λ (z : ℤ). minus z start) e ∙ difference_taken (later time now) start f

pub unwrap-requires : goal.unwrap-requires
unwrap-requires c = is_ok _ _ (apart c)

pub returns : goal.returns
unfolding frame_of
returns c =
    c.frame_at.ensures ∙ ap (λ (z : ℤ). frame_at c.args.self.setup.rate z) (is_time _ _ _ c.unwrap.ensures (apart c.before.before))
