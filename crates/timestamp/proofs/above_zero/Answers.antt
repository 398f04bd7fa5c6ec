-- `timestamp::above_zero` meets its contract.
-- The idea: above zero, finite is below infinity. Assumes nothing.
use Rattle.std.proofs.Common.{◌≡◌, true, false, refl, ◌∙◌}
use Rattle.std.specs.Float.{float_is_finite}
use lib.Ieee.{Float, nan, inf, fin, lt, div, of_bits, binary64}
use Rattle.laws.proofs.Tests.{yes, no, positive_is, not_positive}
use Rattle.timestamp.proofs.above_zero.Goals as goal

-- below infinity
below : (x : Float) → lt (of_bits binary64 0) x ≡ true → float_is_finite x ≡ lt x (div binary64 (of_bits binary64 0x3ff0_0000_0000_0000) (of_bits binary64 0))
unfolding float_is_finite of_bits div lt
below nan h = refl
below (inf true) h = absurd (yes h)
below (inf false) h = refl
below (fin s m e) h = refl

pub returns-then-x : goal.returns-then-x
unfolding of_bits div
returns-then-x c = c.is_finite.ensures.value ∙ below c.args.x c.if-x.true ∙ positive_is c.args.x (yes c.if-x.true)

pub returns-else-x : goal.returns-else-x
unfolding of_bits
returns-else-x c = c.if-x.false ∙ not_positive c.args.x (no c.if-x.false)
