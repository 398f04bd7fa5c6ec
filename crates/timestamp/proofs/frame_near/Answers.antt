-- `timestamp::frame_near` meets its contract.
-- The idea: S of any time is below 2 ^ 52 frames (`S-below`). Assumes nothing.
use Rattle.std.proofs.Common.{◌^◌, ◌<◌, false, T, pos, sym, ap, ◌∙◌, subst, arith, lit≤, w64, SFits, rules}
use lib.Ieee.{Float, fin, lt}
use Rattle.timestamp.specs.Time.{round_of}
use Rattle.timestamp.proofs.Frames.{S-below}
use Rattle.timestamp.proofs.frame_near.Goals as goal

pub half_away-requires : goal.half_away-requires
half_away-requires c =
    let fit : SFits w64 c.args.t.bits = search rules in
    let r : c.args.rate < 2 ^ 18 = omega (arith, c.requires) in
    subst (λ (x : Float). T (lt x (fin false 1 (pos 52)))) (sym c.frames_of.ensures) (S-below c.args.rate c.args.t.bits 52 r fit (lit≤ tt))

pub returns : goal.returns
returns c = c.half_away.ensures ∙ ap round_of c.frames_of.ensures
