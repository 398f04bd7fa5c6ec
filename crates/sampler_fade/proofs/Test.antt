-- One test of a table's bit patterns, which antt computes, and what it says of each pattern.
-- The idea: the patterns climb from 0 to 1.0's, and each two that mirror each other are summed in units of 2 ^ -149. Assumes nothing.
use mathlib.Core.Path.{◌≡◌, refl, sym, ap, ap₂, ◌∙◌, subst}
use mathlib.Core.Bool.{Bool, true, false, ◌&&◌}
use mathlib.Core.Logic.{inl, inr}
use mathlib.Core.List.{List, [], ◌∷◌, reverse}
use Prim.Native.Nat.{ℕ, zero, suc, ◌+◌, ◌-◌, ◌^◌, ◌≤◌, ◌<◌}
use native.Mathlib.Nat.{le_of_eq, le_of_lt, lt_trans, lt_of_lt_of_le, le_of_suc-le-suc, not-suc-le-zero, eq-or-lt_of_le}
use native.Mathlib.Omega.{arith}
use lib.Dec.{T, leb, ltb, eqb, leb→le, ltb→lt, eqb→eq}
use lib.ListN.{length, get_or, get_or-eq_default}
use lib.Ieee.{binary32}
use lib.Ieee.Fits.{and_l, and_r}
use Rattle.std.proofs.lemmas.List.{get_or-reverse}
use Rattle.sampler_fade.specs.FadeRule.{Within}
use Rattle.sampler_fade.proofs.Patterns.{in_units}

-- ---- the test

-- 1.0's pattern
abbrev pub full : ℕ
full = 0x3f80_0000

-- each pattern is above the one before it, the first above p, and 1.0's above the last
abbrev pub climbs : ℕ → List ℕ → Bool
climbs p [] = ltb p full
climbs p (x ∷ xs) = ltb p x && climbs x xs

-- the values of x and y sum to 1 within 2 ^ -24
abbrev pub sums : ℕ → ℕ → Bool
sums x y = let n = in_units binary32 x + in_units binary32 y in leb n (2 ^ 149 + 2 ^ 125) && leb (2 ^ 149) (n + 2 ^ 125)

-- and so do the entries of two lists, place by place
abbrev pub mirrors : List ℕ → List ℕ → Bool
mirrors [] [] = true
mirrors [] (y ∷ ys) = false
mirrors (x ∷ xs) [] = false
mirrors (x ∷ xs) (y ∷ ys) = sums x y && mirrors xs ys

-- the first is 0; they climb; and read backwards from the second on, they mirror themselves
unfoldable pub passes : List ℕ → Bool
unfolding in_units
passes [] = false
passes (b ∷ bits) = eqb b 0 && (climbs b bits && mirrors bits (reverse bits))

pub passed : (b : ℕ) (bits : List ℕ) → T (passes (b ∷ bits)) → (b ≡ 0) × T (climbs b bits) × T (mirrors bits (reverse bits))
unfolding passes
passed b bits t =
    let rest = climbs b bits && mirrors bits (reverse bits) in
    let u = and_r (eqb b 0) rest t in
    (eqb→eq b 0 (and_l (eqb b 0) rest t), and_l (climbs b bits) (mirrors bits (reverse bits)) u, and_r (climbs b bits) (mirrors bits (reverse bits)) u)

-- ---- what it says of each entry

-- p is below each that follows
above : (p : ℕ) (xs : List ℕ) → T (climbs p xs) → (k : ℕ) → p < get_or xs k full
above p [] t k = ltb→lt p full t
above p (x ∷ xs) t zero = ltb→lt p x (and_l (ltb p x) (climbs x xs) t)
above p (x ∷ xs) t (suc k) = lt_trans (ltb→lt p x (and_l (ltb p x) (climbs x xs) t)) (above x xs (and_r (ltb p x) (climbs x xs) t) k)

-- entry F is 1.0's, so this is the rise and the bound
pub climb : (p : ℕ) (xs : List ℕ) → T (climbs p xs) → (i j : ℕ) → i < j → j ≤ suc (length xs) → get_or (p ∷ xs) i full < get_or (p ∷ xs) j full
climb p xs t i zero l h = absurd (not-suc-le-zero l)
climb p xs t zero (suc j) l h = above p xs t j
climb p [] t (suc i) (suc j) l h = absurd (few i j (le_of_suc-le-suc l) (le_of_suc-le-suc h))
  where
    few : (i j : ℕ) → i < j → j ≤ 0 → ⊥
    few i j l h = omega arith
climb p (x ∷ xs) t (suc i) (suc j) l h = climb x xs (and_r (ltb p x) (climbs x xs) t) i j (le_of_suc-le-suc l) (le_of_suc-le-suc h)

-- none is above 1.0's, nor is a default d that is not
pub under : (d p : ℕ) (xs : List ℕ) → d ≤ full → T (climbs p xs) → (i : ℕ) → get_or (p ∷ xs) i d ≤ full
under d p [] h t zero = le_of_lt (ltb→lt p full t)
under d p [] h t (suc i) = h
under d p (x ∷ xs) h t zero = le_of_lt (lt_of_lt_of_le (above p (x ∷ xs) t 0) (under d x xs h (and_r (ltb p x) (climbs x xs) t) 0))
under d p (x ∷ xs) h t (suc i) = under d x xs h (and_r (ltb p x) (climbs x xs) t) i

mirror : (xs ys : List ℕ) → T (mirrors xs ys) → (k : ℕ) → k < length xs → T (sums (get_or xs k full) (get_or ys k full))
mirror [] ys t k h = absurd (not-suc-le-zero h)
mirror (x ∷ xs) [] t k h = absurd t
mirror (x ∷ xs) (y ∷ ys) t zero h = and_l (sums x y) (mirrors xs ys) t
mirror (x ∷ xs) (y ∷ ys) t (suc k) h = mirror xs ys (and_r (sums x y) (mirrors xs ys) t) k (le_of_suc-le-suc h)

-- entry i and entry F - i: the ends are 0 and 1.0's, and between them stands what was tested
ends : T (sums 0 full) × T (sums full 0)
unfolding in_units
ends = (tt, tt)

moved : {x x' y y' : ℕ} → x ≡ x' → y ≡ y' → T (sums x y) → T (sums x' y')
moved p q t = subst T (ap₂ sums p q) t

pub summed : (xs : List ℕ) → T (mirrors xs (reverse xs)) → (i : ℕ) → i ≤ suc (length xs) → T (sums (get_or (0 ∷ xs) i full) (get_or (0 ∷ xs) (suc (length xs) - i) full))
summed xs t zero h = moved refl (sym (get_or-eq_default (0 ∷ xs) full (all (length xs)))) ends.0
  where
    all : (n : ℕ) → suc n ≤ suc n - 0
    all n = omega arith
summed xs t (suc k) h =
    elim (eq-or-lt_of_le (le_of_suc-le-suc h)) [
      | inl e ↦ moved (sym (get_or-eq_default xs full (le_of_eq (sym e)))) (ap (λ (n : ℕ). get_or (0 ∷ xs) n full) (nothing (length xs) k e)) ends.1
      | inr l ↦ moved refl (get_or-reverse xs k full l ∙ ap (λ (n : ℕ). get_or (0 ∷ xs) n full) (next (length xs) k l)) (mirror xs (reverse xs) t k l)
    ]
  where
    nothing : (n k : ℕ) → k ≡ n → 0 ≡ suc n - suc k
    nothing n k e = omega arith

    next : (n k : ℕ) → k < n → suc (n - 1 - k) ≡ suc n - suc k
    next n k l = omega arith

pub within : (x y : ℕ) → T (sums x y) → Within (2 ^ 125) (in_units binary32 x + in_units binary32 y) (2 ^ 149)
within x y t =
    let n = in_units binary32 x + in_units binary32 y in
    let above = leb n (2 ^ 149 + 2 ^ 125) in
    let below = leb (2 ^ 149) (n + 2 ^ 125) in
    (leb→le n (2 ^ 149 + 2 ^ 125) (and_l above below t), leb→le (2 ^ 149) (n + 2 ^ 125) (and_r above below t))
