-- `timestamp::half_away` meets its contract.
-- The idea: twice x is exact, and its whole part halved upwards is the rounding (`twice`). Assumes nothing.
use Rattle.std.proofs.Common.{ℕ, ◌+◌, ◌/◌, ◌%◌, ap, ◌∙◌}
use lib.Ieee.{of_bits}
use Rattle.laws.proofs.Tests.{yes}
use Rattle.timestamp.proofs.Counts.{twice}
use Rattle.timestamp.proofs.half_away.Goals as goal

pub whole_part-u-requires : goal.whole_part-u-requires
unfolding of_bits
whole_part-u-requires c = (twice c.args.x (yes c.well_formed.0.1) c.requires).0

pub returns : goal.returns
unfolding of_bits
returns c =
    ap (λ (u : ℕ). u / 2 + u % 2) c.whole_part-u.ensures ∙ (twice c.args.x (yes c.well_formed.0.1) c.requires).1
