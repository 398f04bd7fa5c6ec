-- `timestamp::to_seconds` meets its contract.
-- The idea: the division by 2 ^ 32 rounds nothing more (`part_32`). Assumes nothing.
use Rattle.std.proofs.Common.{◌≡◌, zero, suc, true, false, ℤ, pos, negsuc, refl, ap, ◌∙◌, le_trans, le_of_lt, zero-lt-suc, lit≤, w64, SFits}
use lib.Ieee.{Float, fin, binary64, round, div, of_int, of_bits}
use mir.ValLaws.{to_z-of_z}
use Rattle.timestamp.specs.Time.{seconds}
use Rattle.laws.proofs.Fit.{part_32}
use Rattle.timestamp.proofs.Values.{two_to_32}
use Rattle.timestamp.proofs.to_seconds.Goals as goal

is : (z : ℤ) → SFits w64 z → div binary64 (of_int binary64 z) (fin false 1 (pos 32)) ≡ seconds z
unfolding seconds of_int
is (pos zero) F = unfold div round in refl
is (pos (suc n)) F = part_32 false (suc n) (zero-lt-suc n) (le_trans (le_of_lt F.sfits) (lit≤ tt))
is (negsuc n) F = part_32 true (suc n) (zero-lt-suc n) (le_trans F.sfits (lit≤ tt))

pub returns : goal.returns
returns c =
    let t = c.args.t in
    ap (λ (x : Float). div binary64 x (of_bits binary64 0x41f0_0000_0000_0000)) (c.nearest_i64_to_f64.ensures ∙ ap (of_int binary64) (to_z-of_z w64 t c.ranges.t))
    ∙ ap (λ (y : Float). div binary64 (of_int binary64 t) y) two_to_32
    ∙ is t c.ranges.t
