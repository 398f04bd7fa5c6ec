-- `timestamp::frame_at` meets its contract.
-- The idea: S of any time is below 2 ^ 52 frames (`S-below`). Assumes nothing.
use Rattle.std.proofs.Common.{◌^◌, ◌<◌, false, T, pos, sym, ap, ◌∙◌, subst, arith, lit≤, w64, SFits, rules}
use lib.Ieee.{Float, fin, lt}
use Rattle.timestamp.specs.Time.{floor_of}
use Rattle.timestamp.proofs.Frames.{S-below}
use Rattle.timestamp.proofs.frame_at.Goals as goal

pub whole_part-requires : goal.whole_part-requires
whole_part-requires c =
    let fit : SFits w64 c.args.t.bits = search rules in
    let r : c.args.rate < 2 ^ 18 = omega (arith, c.requires) in
    subst (λ (x : Float). T (lt x (fin false 1 (pos 64)))) (sym c.frames_of.ensures) (S-below c.args.rate c.args.t.bits 64 r fit (lit≤ tt))

pub returns : goal.returns
returns c = c.whole_part.ensures ∙ ap floor_of c.frames_of.ensures
