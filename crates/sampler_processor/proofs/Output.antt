-- Rule 6 along a slice, one entry at a time.
-- The idea: what is bad so far, or from i on, is what is bad at all. Assumes nothing.
use Prim.Native.Nat.{ℕ, suc, ◌+◌, ◌≤◌, ◌<◌}
use mathlib.Core.Path.{◌≡◌, sym}
use mathlib.Core.Bool.{Bool, ◌||◌, or_assoc, or-false}
use mathlib.Core.List.{List}
use native.Mathlib.Numerals.{add-one}
use lib.ListN.{length, drop, get_or, drop_of_length-le}
use lib.Seq.{drop-cons}
use lib.Ieee.{Float}
use Rattle.sampler_processor.specs.Numbers.{entry_bad, output_bad}

pub output_on : (xs : List Float) (i : ℕ) (z : Float) → i < length xs → (bad : Bool) → (bad || output_bad (drop i xs)) ≡ ((bad || entry_bad (get_or xs i z)) || output_bad (drop (i + 1) xs))
unfolding output_bad
output_on xs i z h bad = rw (drop-cons xs i z h, add-one i) (sym (or_assoc bad (entry_bad (get_or xs i z)) (output_bad (drop (suc i) xs))))

pub output_none : (xs : List Float) (i : ℕ) (bad : Bool) → length xs ≤ i → (bad || output_bad (drop i xs)) ≡ bad
unfolding output_bad
output_none xs i bad h = rw (drop_of_length-le xs {i = i} h) (or-false bad)
