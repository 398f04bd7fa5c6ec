-- `timestamp::Timestamp::from_beats` meets its contract.
-- The idea: 60.0 is 60 as a float, and `from_seconds` does the rest. Assumes nothing.
use Rattle.std.proofs.Common.{sym, ◌∙◌, rules}
use lib.Ieee.{of_bits, of_int, round}
use Rattle.timestamp.specs.Time.{frequency}
use Rattle.timestamp.specs.Answer.{from_beats}
use Rattle.timestamp.proofs.Timestamp.from_beats.Goals as goal

pub returns-then-not-above_zero : goal.returns-then-not-above_zero
unfolding from_beats
returns-then-not-above_zero c = search rules

pub returns : goal.returns
unfolding from_beats frequency of_bits of_int round
returns c = c.from_seconds.ensures ∙ simp (sym c.above_zero.ensures ∙ c.if-not-above_zero.false)
