-- The law of fade tables, for any table: where the test passes on the bit patterns, the table keeps the rule at each entry.
-- The idea: an entry's value in units of 2 ^ -149 is its pattern's, and the order of the patterns is the order of the values. Assumes nothing.
use mathlib.Core.Path.{◌≡◌, refl, sym, ap, ap₂, ◌∙◌, subst}
use mathlib.Core.List.{List, [], ◌∷◌, reverse}
use Prim.Native.Nat.{ℕ, suc, ◌+◌, ◌-◌, ◌/◌, ◌^◌, ◌≤◌, ◌<◌}
use native.Mathlib.Nat.{le_refl, le_of_lt, lt_of_le_of_lt, mul-div_cancel}
use lib.Dec.{T, lit<, lit≤}
use lib.ListN.{length, get_or, length-map, get_or-map, get_or-eq_default}
use lib.Ieee.{Float, binary32, of_bits, lt}
use lib.Ieee.Positive.{den, den_pos, value→cross}
use Rattle.sampler_fade.specs.Entry.{one, table_of, entry}
use Rattle.sampler_fade.specs.FadeRule.{FadeRule, Within, scaled}
use Rattle.sampler_fade.proofs.Patterns.{infinite, in_units, value}
use Rattle.sampler_fade.proofs.Order.{rises}
use Rattle.sampler_fade.proofs.Test.{full, climbs, climb, under, within, mirrors, summed, passes, passed}

-- an entry's value in units is its pattern's
scaled_is : (b : ℕ) → b < infinite binary32 → scaled (of_bits binary32 b) ≡ in_units binary32 b
scaled_is b h =
    let x = of_bits binary32 b in
    ap (λ (n : ℕ). n / den x) (value→cross x (in_units binary32 b) (2 ^ 149) (value binary32 b h)) ∙ mul-div_cancel (in_units binary32 b) (den_pos x)

-- of a list whose first pattern is 0. Its F is `suc (length xs)`
module _ (xs : List ℕ) (c : T (climbs 0 xs)) (m : T (mirrors xs (reverse xs))) where
  at : (i : ℕ) → entry (table_of (0 ∷ xs)) i ≡ of_bits binary32 (get_or (0 ∷ xs) i full)
  at i = get_or-map (of_bits binary32) (0 ∷ xs) i full

  all : length (table_of (0 ∷ xs)) ≡ suc (length xs)
  all = length-map (0 ∷ xs) (of_bits binary32)

  past : entry (table_of (0 ∷ xs)) (suc (length xs)) ≡ one
  past = at (suc (length xs)) ∙ ap (of_bits binary32) (get_or-eq_default (0 ∷ xs) full (le_refl (suc (length xs))))

  bound : (i : ℕ) → get_or (0 ∷ xs) i full < infinite binary32
  bound i = lt_of_le_of_lt (under full 0 xs (le_refl full) c i) (lit< tt)

  ordered : (i j : ℕ) → i < j → j ≤ suc (length xs) → T (lt (entry (table_of (0 ∷ xs)) i) (entry (table_of (0 ∷ xs)) j))
  ordered i j l h = rw (at i, at j) (rises binary32 (climb 0 xs c i j l h) (bound j))

  units : (i : ℕ) → scaled (entry (table_of (0 ∷ xs)) i) ≡ in_units binary32 (get_or (0 ∷ xs) i full)
  units i = ap scaled (at i) ∙ scaled_is (get_or (0 ∷ xs) i full) (bound i)

  sum : (i : ℕ) → i ≤ suc (length xs) → Within (2 ^ 125) (scaled (entry (table_of (0 ∷ xs)) i) + scaled (entry (table_of (0 ∷ xs)) (suc (length xs) - i))) (2 ^ 149)
  sum i h =
      subst (λ (n : ℕ). Within (2 ^ 125) n (2 ^ 149)) (sym (ap₂ (λ (a b : ℕ). a + b) (units i) (units (suc (length xs) - i))))
      (within (get_or (0 ∷ xs) i full) (get_or (0 ∷ xs) (suc (length xs) - i) full) (summed xs m i h))

  from_zero : FadeRule (table_of (0 ∷ xs))
  from_zero =
      record {
        first = refl;
        rising = λ i j l h. ordered i j l (le_of_lt (rw all at h));
        below = λ i h. rw past at (ordered i (suc (length xs)) (rw all at h) (le_refl (suc (length xs))));
        mirrored = λ i h. rw all (sum i (rw all at h));
      }

pub rule : (bits : List ℕ) → T (passes bits) → FadeRule (table_of bits)
rule [] t = absurd (unfold passes in t)
rule (b ∷ xs) t =
    let p = passed b xs t in
    subst (λ (n : ℕ). T (climbs n xs) → FadeRule (table_of (n ∷ xs))) (sym p.0) (λ c. from_zero xs c p.2) p.1

-- ---- for a function that reads the patterns into a table

below_infinite : (bits : List ℕ) → T (passes bits) → (i : ℕ) → get_or bits i 0 < infinite binary32
below_infinite [] t i = absurd (unfold passes in t)
below_infinite (b ∷ xs) t i = lt_of_le_of_lt (under 0 b xs (lit≤ tt) (passed b xs t).1 i) (lit< tt)

pub finite : {bits read : List ℕ} → T (passes bits) → read ≡ bits → (i : ℕ) → get_or read i 0 < infinite binary32
finite t e = subst (λ (l : List ℕ). (i : ℕ) → get_or l i 0 < infinite binary32) (sym e) (below_infinite _ t)

pub made : {bits read : List ℕ} {table : List Float} → T (passes bits) → read ≡ bits → table ≡ table_of read → (table ≡ table_of bits) × FadeRule table
made t e k =
    let all = k ∙ ap table_of e in
    (all, subst FadeRule (sym all) (rule _ t))
