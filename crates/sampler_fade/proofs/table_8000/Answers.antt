-- `sampler_fade::table_8000` meets its contract, and the table keeps the rule.
-- The idea: antt compares the source's constants with the definition's; the test on the patterns is computed once. Assumes nothing.
use mathlib.Core.Path.{refl}
use Rattle.sampler_fade.specs.Bits.{bits8000}
use Rattle.sampler_fade.proofs.FadeRule.{finite, made}
use Rattle.sampler_fade.proofs.Table.{passes8000}
use Rattle.sampler_fade.proofs.table_8000.Goals as goal

pub fill-requires : goal.fill-requires
unfolding bits8000
fill-requires c = record { same_length = refl; below_infinity = finite passes8000 refl }

pub returns : goal.returns
unfolding bits8000
returns c = let whole = made passes8000 refl c.fill.ensures in
    record {
      value = whole.0;
      fade_rule = whole.1;
    }
