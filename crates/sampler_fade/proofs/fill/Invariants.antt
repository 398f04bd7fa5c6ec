-- `sampler_fade::fill` meets its contract: the table becomes the floats of the patterns.
-- The idea: at each turn the entries before i are the floats of the patterns before i. Assumes nothing.
use mathlib.Core.Path.{◌≡◌}
use lib.ListN.{length, take}
use Rattle.sampler_fade.specs.Entry.{table_of}
use Rattle.sampler_fade.proofs.fill.Given as goal

abbrev pub invariant-loop-i : goal.invariant-loop-i
invariant-loop-i l = record { long : length l.table ≡ length l.bits; done : take l.i l.table ≡ table_of (take l.i l.bits) }
