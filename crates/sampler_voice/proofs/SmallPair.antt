-- A voice adds a pair of at most 16 in magnitude.
-- The idea: a cleaned sample is at most 16, and a cleaned entry of the fade at most 1. Assumes nothing.
use Prim.Native.Nat.{ℕ, ◌-◌}
use mathlib.Core.Bool.{Bool, true, false, cond, ◌&&◌}
use mathlib.Core.List.{List}
use native.Mathlib.Omega.{arith}
use lib.IntN.{pos}
use lib.Dec.{T}
use lib.ListN.{length, get_or}
use lib.Ieee.{Float, nan, fin, binary32, neg, le, of_bits}
use Rattle.sampler_fade.specs.Entry.{none, one, cleaned_fade, fade_at}
use Rattle.sampler_voice.specs.declared.Channels.{Channels}
use Rattle.sampler_voice.specs.declared.Pair.{Pair}
use Rattle.sampler_voice.specs.declared.Phase.{Phase}
use Rattle.sampler_voice.specs.declared.Phase.TheVariants.{Stopped, FadingIn, Playing, FadingOut}
use Rattle.sampler_voice.specs.Sound.{sixteen, cleaned, both_mixed, entry, fetched, scaled}
use Rattle.sampler_voice.specs.Voices.{faded}
use Rattle.laws.proofs.Bounds.{AtMost, mul_most}
use Rattle.laws.proofs.RangeTests.{tests_most, unit_most}

cleaned_most : (x : Float) → AtMost 16 (cleaned x)
unfolding cleaned of_bits neg
cleaned_most x = go (le (neg sixteen) x) (le x sixteen) (λ t. t) (λ t. t)
  where
    go : (a b : Bool) → (T a → T (le (fin true 1 (pos 4)) x)) → (T b → T (le x (fin false 1 (pos 4)))) → AtMost 16 (cond (a && b) x none)
    go true true p q = tests_most x 4 (p tt) (q tt)
    go true false p q = omega arith
    go false b p q = omega arith

fade_most : (x : Float) → AtMost 1 (cleaned_fade x)
unfolding cleaned_fade of_bits
fade_most x = go (le none x) (le x one) (λ t. t) (λ t. t)
  where
    go : (a b : Bool) → (T a → T (le (fin false 0 (pos 0)) x)) → (T b → T (le x (fin false 1 (pos 0)))) → AtMost 1 (cond (a && b) x one)
    go true true p q = unit_most x (p tt) (q tt)
    go true false p q = omega arith
    go false b p q = omega arith

abbrev pub Most : Pair → Type 0
Most q = AtMost 16 q.left × AtMost 16 q.right

pub fetched_most : (rec : List Float) (rn : ℕ) (ch : Channels) (p : ℕ) → Most (fetched rec rn ch p)
unfolding fetched of_bits
fetched_most rec rn ch p = (cleaned_most (get_or rec (entry ch.recording rn 0 p) nan), go (both_mixed ch))
  where
    go : (t : Bool) → AtMost 16 (cond t (cleaned (get_or rec (entry ch.recording rn 1 p) nan)) none)
    go true = cleaned_most (get_or rec (entry ch.recording rn 1 p) nan)
    go false = omega arith

scaled_most : (fade : List Float) (i : ℕ) (q : Pair) → Most q → Most (scaled (fade_at fade i) q)
unfolding fade_at
scaled_most fade i q h =
    let g = cleaned_fade (get_or fade i one) in
    (mul_most binary32 1 16 g q.left (omega arith) (fade_most (get_or fade i one)) h.0, mul_most binary32 1 16 g q.right (omega arith) (fade_most (get_or fade i one)) h.1)

pub faded_most : (fade : List Float) (ph : Phase) (q : Pair) → Most q → Most (faded fade ph q)
unfolding faded
faded_most fade Stopped q h = h
faded_most fade (FadingIn i) q h = scaled_most fade i q h
faded_most fade Playing q h = h
faded_most fade (FadingOut i) q h = scaled_most fade (length fade - i) q h
