-- Times by their size, and what is not negative of a time.
-- The idea: std's arithmetic of integers. Assumes nothing.
use Prim.Native.Nat.{ℕ, ◌-◌, ◌^◌, ◌≤◌}
use native.Mathlib.Omega.{arith}
use mathlib.Core.Path.{◌≡◌}
use lib.IntN.{ℤ, pos, negsuc, nat_abs}
use Rattle.std.proofs.lemmas.Int.{ints}
use Rattle.laws.proofs.Minus.{Minus, below}
use Rattle.sampler_player.proofs.Kept.{Stands}
use Rattle.sampler_player.specs.Clock.{not_negative}

pub below_size : (z : ℤ) → below z ≤ nat_abs z
below_size (pos n) = omega arith
below_size (negsuc n) = omega arith

-- a position in its limits
pub stands_size : (x : ℕ) (z : ℤ) → Stands x z → nat_abs z ≤ 2 ^ 49
stands_size x z h = let a = h.high in let b = h.low in omega (arith, ints, a, b)

-- what is not negative of a difference is the difference of natural numbers
pub above_minus : (z : ℤ) (a b : ℕ) → Minus z a b → not_negative z ≡ a - b
above_minus (pos n) a b h = omega arith
above_minus (negsuc n) a b h = omega arith
