-- `timestamp::whole_part` meets its contract.
-- The idea: below 2 ^ 64 the cast is the quotient (`cut_cast`), and from -1 down the answer is 0. Assumes nothing.
use Rattle.std.proofs.Common.{◌∙◌}
use lib.Ieee.{of_bits, neg}
use Rattle.laws.proofs.Tests.{yes, no}
use Rattle.timestamp.proofs.Counts.{cut_low, cut_cast}
use Rattle.timestamp.proofs.whole_part.Goals as goal

pub truncating_f64_to_u64-requires : goal.truncating_f64_to_u64-requires
unfolding of_bits neg
truncating_f64_to_u64-requires c = record { lower_bound = yes c.if-x.true; upper_bound = c.requires }

pub returns-then-x : goal.returns-then-x
returns-then-x c = c.truncating_f64_to_u64.ensures ∙ cut_cast c.args.x c.requires

pub returns-else-x : goal.returns-else-x
unfolding of_bits neg
returns-else-x c = cut_low c.args.x (no c.if-x.false)
