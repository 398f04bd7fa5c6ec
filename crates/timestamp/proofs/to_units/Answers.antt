-- `timestamp::to_units` meets its contract.
-- The idea: the product with 2 ^ 32 is exact (`scaled`). Assumes nothing.
use Rattle.std.proofs.Common.{false, T, pos, sym, ap, ◌∙◌, subst, le_trans, le_of_eq, mul-one}
use lib.Ieee.{Float, fin, binary64, lt, mul}
use lib.Ieee.Positive.{num, den, positive, le→cross}
use lib.Ieee.Nearest.{closest}
use Rattle.timestamp.proofs.Fixed.{Scaled, scaled}
use Rattle.timestamp.proofs.Values.{two_to_32}
use Rattle.timestamp.proofs.to_units.Goals as goal

of : (c : goal.Start) → Scaled c.args.a
of c = scaled c.args.a (subst T (sym c.well_formed.0.1) tt) c.requires.above_zero (le_trans (le_of_eq (sym (mul-one (num c.args.a)))) (le→cross c.args.a (fin false 1 (pos 31)) c.requires.above_zero tt c.requires.below_limit))

pub nearest_whole-requires : goal.nearest_whole-requires
nearest_whole-requires c =
    record {
      above_zero = subst (λ (k : Float). T (positive (mul binary64 c.args.a k))) (sym two_to_32) (of c).0;
      below_limit = subst (λ (k : Float). T (lt (mul binary64 c.args.a k) (fin false 1 (pos 64)))) (sym two_to_32) (of c).1;
    }

pub returns : goal.returns
returns c =
    c.nearest_whole.ensures
    ∙ ap (λ (k : Float). closest (num (mul binary64 c.args.a k)) (den (mul binary64 c.args.a k))) two_to_32
    ∙ (of c.before).2
