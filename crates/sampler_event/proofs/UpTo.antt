-- What lies from 0 on as a natural number, as a position that passes 11 does, and rule 12 in such numbers.
-- The idea: the difference of the two points is `Minus` (laws), so an end before its start is below every bound, and otherwise all is in ℕ. Assumes nothing.
use Prim.Native.Nat.{ℕ, suc, ◌+◌, ◌*◌, ◌-◌, ◌^◌, ◌≤◌, ◌<◌, max}
use mathlib.Core.Path.{◌≡◌, refl}
use mathlib.Core.Bool.{Bool, true, false, not, false≢true}
use native.Mathlib.Nat.{add-zero, mul-le-mul, le-max_right}
use native.Mathlib.Omega.{arith}
use borrow.Author.Tests.{not-false}
use lib.Dec.{T, ltb, leb→le}
use lib.IntN.{ℤ, pos, negsuc, neg_ℤ, nat_abs, ◌+ℤ◌, ◌-ℤ◌}
use lib.Signed.{lt_z, le_z}
use mir.Facts.{and_yes}
use Rattle.laws.proofs.Tests.{yes}
use Rattle.laws.proofs.Minus.{Minus, nlt_z_minus, plus_minus, neg_minus, nat_minus, minus_pos, minus_negsuc}
use Rattle.laws.specs.Rules.{within}
use Rattle.sampler_event.specs.Limits.{place_bad, loop_short}

-- z is a natural number of at most m
pub record UpTo (m : ℕ) (z : ℤ) : Type 0 where
  pub is : z ≡ pos (nat_abs z)
  pub most : nat_abs z ≤ m

pub within_up : (m : ℕ) (z : ℤ) → within (pos 0) (pos m) z ≡ true → UpTo m z
within_up m (pos n) e = record { is = refl; most = leb→le n m (and_yes (le_z (pos 0) (pos n)) (le_z (pos n) (pos m)) (yes e)).1 }
within_up m (negsuc n) e = absurd (false≢true e)

pub place_up : (z : ℤ) → place_bad z ≡ false → UpTo (2 ^ 42) z
place_up z e = within_up (2 ^ 42) z (not-false (within (pos 0) (pos (2 ^ 42)) z) e)

-- ---- rule 12
is_below : (x y : ℤ) (a b c d : ℕ) → Minus x a b → Minus y c d → a + d < c + b → true ≡ lt_z x y
is_below x y a b c d h k l = go (lt_z x y) (nlt_z_minus x y a b c d h k)
  where
    go : (t : Bool) → (T (not t) → c + b ≤ a + d) → true ≡ t
    go true f = refl
    go false f = absurd (let z = f tt in omega arith)

-- less than nothing, and 2 ^ 31
below_least : (p F : ℕ) → true ≡ lt_z (neg_ℤ (pos p) +ℤ pos (2 ^ 31)) (pos (max F 64 * 2 ^ 32))
below_least p F =
    let m = le-max_right F 64 in
    is_below (neg_ℤ (pos p) +ℤ pos (2 ^ 31)) (pos (max F 64 * 2 ^ 32)) (0 + 2 ^ 31) (p + 0) (max F 64 * 2 ^ 32) 0
    (plus_minus (neg_ℤ (pos p)) (pos (2 ^ 31)) 0 p (2 ^ 31) 0 (neg_minus (pos p) p 0 (add-zero p)) refl)
    (add-zero (max F 64 * 2 ^ 32))
    (omega arith)

-- an end before its start
pub short_back : (R F a b : ℕ) → b < a → true ≡ loop_short R F (pos a) (pos b)
short_back R F a b h =
    rw (minus_negsuc (pos b -ℤ pos a) b a (a - suc b) (nat_minus b a) (omega arith)) (below_least (suc (a - suc b) * R) F)

-- an end from its start on
pub short_on : (R F a b : ℕ) → a ≤ b → ltb ((b - a) * R + 2 ^ 31) (max F 64 * 2 ^ 32) ≡ loop_short R F (pos a) (pos b)
short_on R F a b h = rw (minus_pos (pos b -ℤ pos a) b a (b - a) (nat_minus b a) (omega arith)) refl

-- the product stays small
pub product : (d R : ℕ) → d ≤ 2 ^ 42 → R ≤ 96000 → d * R ≤ 2 ^ 59
product d R h k = let p = mul-le-mul h k in omega (arith, p)
