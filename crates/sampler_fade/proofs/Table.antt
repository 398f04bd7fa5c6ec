-- The two tables pass the test, and so keep the rule; each is as long as its rate's fade.
-- The idea: antt computes the test over each whole table. Assumes nothing.
use mathlib.Core.Path.{◌≡◌, refl}
use lib.Dec.{T}
use lib.ListN.{length}
use Rattle.timestamp.specs.Time.{fade_length}
use Rattle.sampler_fade.specs.Bits.{bits48000, bits8000}
use Rattle.sampler_fade.specs.Entry.{table_of}
use Rattle.sampler_fade.specs.FadeRule.{FadeRule}
use Rattle.sampler_fade.proofs.Test.{passes}
use Rattle.sampler_fade.proofs.FadeRule.{rule}

pub passes48000 : T (passes bits48000)
unfolding passes bits48000
passes48000 = tt

pub passes8000 : T (passes bits8000)
unfolding passes bits8000
passes8000 = tt

pub rule48000 : FadeRule (table_of bits48000)
rule48000 = rule bits48000 passes48000

pub rule8000 : FadeRule (table_of bits8000)
rule8000 = rule bits8000 passes8000

pub lengths : (length bits48000 ≡ fade_length 48000) × (length bits8000 ≡ fade_length 8000)
unfolding bits48000 bits8000
lengths = (refl, refl)
