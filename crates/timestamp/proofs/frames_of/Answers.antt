-- `timestamp::frames_of` meets its contract.
-- The idea: a field written as bits and read back is itself, and a rate in range is a float exactly. Assumes nothing.
use Rattle.std.proofs.Common.{◌^◌, ◌≤◌, pos, ap, ◌∙◌, arith, le→leb, w64, SFits, rules}
use lib.Ieee.{Float, binary64, mul, of_int, in_float}
use mir.ValLaws.{to_z-of_z}
use Rattle.timestamp.specs.Time.{seconds, frames_of}
use Rattle.timestamp.proofs.frames_of.Goals as goal

pub int_to_float-result : goal.int_to_float-result
unfolding in_float
int_to_float-result c =
    let h : c.args.rate ≤ 2 ^ 53 = omega (arith, c.requires) in
    le→leb _ _ h

pub returns : goal.returns
unfolding frames_of
returns c =
    let a = c.args in
    let fit : SFits w64 a.t.bits = search rules in
    ap (λ (x : Float). mul binary64 x (of_int binary64 (pos a.rate))) (c.to_seconds.ensures ∙ ap seconds (to_z-of_z w64 a.t.bits fit))
