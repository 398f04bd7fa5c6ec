-- The entry that counts, inside a table and past it; and in a table that keeps the rule every entry counts as itself.
-- The idea: 1.0 is its own cleaned value, and so is what lies from 0 to 1. Assumes nothing.
use mathlib.Core.Path.{◌≡◌, refl, sym, ap, ◌∙◌, subst}
use mathlib.Core.Bool.{Bool, true, false, not, ◌||◌}
use mathlib.Core.List.{List}
use Prim.Native.Nat.{ℕ, zero, suc, ◌+◌, ◌-◌, ◌^◌, ◌≤◌, ◌<◌}
use native.Mathlib.Nat.{zero-lt-suc}
use lib.Dec.{T, ltb, ltb→lt, nltb→le}
use lib.ListN.{length, get_or, get_or-eq_default}
use lib.Ieee.{Float, nan, lt, le, eq, of_bits}
use lib.Ieee.Bits.{is_true}
use Rattle.std.proofs.lemmas.List.{get_or_default}
use Rattle.sampler_fade.specs.Entry.{none, one, entry, cleaned_fade, fade_at, fade_in, fade_out}
use Rattle.sampler_fade.specs.FadeRule.{FadeRule, Within, scaled}

pub inside : (table : List Float) (i : ℕ) → i < length table → fade_at table i ≡ cleaned_fade (get_or table i nan)
unfolding fade_at
inside table i h = ap cleaned_fade (get_or_default table i one nan h)

one_kept : cleaned_fade one ≡ one
unfolding cleaned_fade le of_bits
one_kept = refl

pub past : (table : List Float) (i : ℕ) → length table ≤ i → fade_at table i ≡ one
unfolding fade_at
past table i h = ap cleaned_fade (get_or-eq_default table one h) ∙ one_kept

-- ---- a table that keeps the rule

lt_le : (x y : Float) → T (lt x y) → T (le x y)
unfolding le
lt_le x y t = or_l (lt x y) (eq x y) t
  where
    or_l : (a b : Bool) → T a → T (a || b)
    or_l true b t = tt
    or_l false b t = absurd t

zero_le_zero : T (le none none)
unfolding le of_bits
zero_le_zero = tt

clean : (x : Float) → T (le none x) → T (le x one) → cleaned_fade x ≡ x
unfolding cleaned_fade
clean x a b = simp (is_true (le none x) a, is_true (le x one) b)

module _ (table : List Float) (r : FadeRule table) where
  low : (i : ℕ) → i < length table → T (le none (entry table i))
  low zero h = subst (λ (x : Float). T (le none x)) (sym r.first) zero_le_zero
  low (suc i) h = lt_le none (entry table (suc i)) (subst (λ (x : Float). T (lt x (entry table (suc i)))) r.first (r.rising 0 (suc i) (zero-lt-suc i) h))

  -- every entry counts as itself
  pub kept : (i : ℕ) → fade_at table i ≡ entry table i
  unfolding fade_at
  kept i = go (ltb i (length table)) (ltb→lt i (length table)) (nltb→le i (length table))
    where
      go : (b : Bool) → (T b → i < length table) → (T (not b) → length table ≤ i) → fade_at table i ≡ entry table i
      go true h k = clean (entry table i) (low i (h tt)) (lt_le (entry table i) one (r.below i (h tt)))
      go false h k = past table i (k tt) ∙ sym (get_or-eq_default table one (k tt))

  -- so what fades in and what fades out sum to 1, within 2 ^ -24
  pub crossfade : (i : ℕ) → i ≤ length table → Within (2 ^ 125) (scaled (fade_in table i) + scaled (fade_out table i)) (2 ^ 149)
  crossfade i h = rw (kept i, kept (length table - i)) (r.mirrored i h)
