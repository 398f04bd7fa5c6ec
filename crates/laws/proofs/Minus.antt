-- An integer as a difference of two natural numbers, `Minus z a b`, and the range of an i64 in these terms.
-- The idea: a fact about integers becomes one for `omega`, which reads natural numbers only. Assumes nothing.
use mathlib.Core.Path.{◌≡◌, ap}
use Prim.Native.Nat.{ℕ, zero, suc, ◌+◌, ◌-◌, ◌^◌, ◌≤◌, ◌<◌, min}
use native.Mathlib.Nat.{add-zero}
use native.Mathlib.Omega.{arith}
use mathlib.Core.Bool.{Bool, true, false, not, cond, true≢false, false≢true}
use lib.Dec.{T, ltb, ltb→lt, nltb→le}
use borrow.Author.Tests.{leb-true, leb-false, le-ltb}
use mir.Syntax.{w64}
use mir.Val.{SFits}
use lib.IntN.{ℤ, pos, negsuc, neg_ℤ, nat_abs, sub_ℕ, ◌+ℤ◌, ◌-ℤ◌}
use lib.Signed.{mag, le_z, lt_z}

-- z is a - b
abbrev pub Minus : ℤ → ℕ → ℕ → Type 0
Minus (pos n) a b = n + b ≡ a
Minus (negsuc n) a b = a + suc n ≡ b

-- each integer is one: what it has above zero, and what it has below
abbrev pub above : ℤ → ℕ
above (pos n) = n
above (negsuc n) = 0

abbrev pub below : ℤ → ℕ
below (pos n) = 0
below (negsuc n) = suc n

pub parts : (z : ℤ) → Minus z (above z) (below z)
parts (pos n) = add-zero n
parts (negsuc n) = omega arith

pub sub_minus : (a b : ℕ) → Minus (sub_ℕ a b) a b
sub_minus a b = go (ltb a b) (ltb→lt a b) (nltb→le a b)
  where
    up : (a b : ℕ) → b ≤ a → a - b + b ≡ a
    up a b h = omega arith

    down : (a b : ℕ) → a < b → a + suc (b - suc a) ≡ b
    down a b h = omega arith

    go : (t : Bool) → (T t → a < b) → (T (not t) → b ≤ a) → Minus (cond t (negsuc (b - suc a)) (pos (a - b))) a b
    go true h k = down a b (h tt)
    go false h k = up a b (k tt)

-- the same number by other sizes
pub shift : (z : ℤ) (a b c d : ℕ) → a + d ≡ c + b → Minus z a b → Minus z c d
shift (pos n) a b c d e h = omega arith
shift (negsuc n) a b c d e h = omega arith

pub plus_minus : (x y : ℤ) (a b c d : ℕ) → Minus x a b → Minus y c d → Minus (x +ℤ y) (a + c) (b + d)
plus_minus (pos m) (pos n) a b c d h k = omega arith
plus_minus (pos m) (negsuc n) a b c d h k = shift (sub_ℕ m (suc n)) m (suc n) (a + c) (b + d) (omega arith) (sub_minus m (suc n))
plus_minus (negsuc m) (pos n) a b c d h k = shift (sub_ℕ n (suc m)) n (suc m) (a + c) (b + d) (omega arith) (sub_minus n (suc m))
plus_minus (negsuc m) (negsuc n) a b c d h k = omega arith

pub neg_minus : (z : ℤ) (a b : ℕ) → Minus z a b → Minus (neg_ℤ z) b a
neg_minus (pos zero) a b h = omega arith
neg_minus (pos (suc n)) a b h = omega arith
neg_minus (negsuc n) a b h = omega arith

pub less_minus : (x y : ℤ) (a b c d : ℕ) → Minus x a b → Minus y c d → Minus (x -ℤ y) (a + d) (b + c)
less_minus x y a b c d h k = plus_minus x (neg_ℤ y) a b d c h (neg_minus y c d k)

-- ---- the order
pub lt_z_minus : (x y : ℤ) (a b c d : ℕ) → Minus x a b → Minus y c d → T (lt_z x y) → a + d < c + b
lt_z_minus (pos m) (pos n) a b c d h k t = let l = ltb→lt m n t in omega (arith, l)
lt_z_minus (pos m) (negsuc n) a b c d h k t = absurd t
lt_z_minus (negsuc m) (pos n) a b c d h k t = omega arith
lt_z_minus (negsuc m) (negsuc n) a b c d h k t = let l = ltb→lt n m t in omega (arith, l)

pub nlt_z_minus : (x y : ℤ) (a b c d : ℕ) → Minus x a b → Minus y c d → T (not (lt_z x y)) → c + b ≤ a + d
nlt_z_minus (pos m) (pos n) a b c d h k t = let l = nltb→le m n t in omega (arith, l)
nlt_z_minus (pos m) (negsuc n) a b c d h k t = omega arith
nlt_z_minus (negsuc m) (pos n) a b c d h k t = absurd t
nlt_z_minus (negsuc m) (negsuc n) a b c d h k t = let l = nltb→le n m t in omega (arith, l)

pub le_z_minus : (x y : ℤ) (a b c d : ℕ) → Minus x a b → Minus y c d → le_z x y ≡ true → a + d ≤ c + b
le_z_minus (pos m) (pos n) a b c d h k t = let l = leb-true m n t in omega (arith, l)
le_z_minus (pos m) (negsuc n) a b c d h k t = absurd (false≢true t)
le_z_minus (negsuc m) (pos n) a b c d h k t = omega arith
le_z_minus (negsuc m) (negsuc n) a b c d h k t = let l = leb-true n m t in omega (arith, l)

pub nle_z_minus : (x y : ℤ) (a b c d : ℕ) → Minus x a b → Minus y c d → le_z x y ≡ false → c + b < a + d
nle_z_minus (pos m) (pos n) a b c d h k t = let l = leb-false m n t in omega (arith, l)
nle_z_minus (pos m) (negsuc n) a b c d h k t = omega arith
nle_z_minus (negsuc m) (pos n) a b c d h k t = absurd (true≢false t)
nle_z_minus (negsuc m) (negsuc n) a b c d h k t = let l = leb-false n m t in omega (arith, l)

pub earlier_minus : (x y : ℤ) (a c b : ℕ) → Minus x a b → Minus y c b → Minus (cond (lt_z x y) x y) (min a c) b
earlier_minus x y a c b h k = go (lt_z x y) (lt_z_minus x y a b c b h k) (nlt_z_minus x y a b c b h k)
  where
    left : a + b < c + b → a + b ≡ min a c + b
    left l = omega arith

    right : c + b ≤ a + b → c + b ≡ min a c + b
    right l = omega arith

    go : (t : Bool) → (T t → a + b < c + b) → (T (not t) → c + b ≤ a + b) → Minus (cond t x y) (min a c) b
    go true p q = shift x a b (min a c) b (left (p tt)) h
    go false p q = shift y c b (min a c) b (right (q tt)) k

-- ---- which number it is
pub minus_pos : (z : ℤ) (a b n : ℕ) → Minus z a b → n + b ≡ a → z ≡ pos n
minus_pos (pos m) a b n h e = ap pos (same m n a b h e)
  where
    same : (m n a b : ℕ) → m + b ≡ a → n + b ≡ a → m ≡ n
    same m n a b h e = omega arith
minus_pos (negsuc m) a b n h e = absurd (none m n a b h e)
  where
    none : (m n a b : ℕ) → a + suc m ≡ b → n + b ≡ a → ⊥
    none m n a b h e = omega arith

pub minus_negsuc : (z : ℤ) (a b n : ℕ) → Minus z a b → a + suc n ≡ b → z ≡ negsuc n
minus_negsuc (pos m) a b n h e = absurd (none m n a b h e)
  where
    none : (m n a b : ℕ) → m + b ≡ a → a + suc n ≡ b → ⊥
    none m n a b h e = omega arith
minus_negsuc (negsuc m) a b n h e = ap negsuc (same m n a b h e)
  where
    same : (m n a b : ℕ) → a + suc m ≡ b → a + suc n ≡ b → m ≡ n
    same m n a b h e = omega arith

-- ---- a difference of two natural numbers, and its size
tidy : (a b : ℕ) → a + 0 + b ≡ a + (0 + b)
tidy a b = omega arith

pub nat_minus : (a b : ℕ) → Minus (pos a -ℤ pos b) a b
nat_minus a b = shift (pos a -ℤ pos b) (a + 0) (0 + b) a b (tidy a b) (less_minus (pos a) (pos b) a 0 b 0 (add-zero a) (add-zero b))

pub size_minus : (z : ℤ) (a b h : ℕ) → a ≤ h → b ≤ h → Minus z a b → nat_abs z ≤ h
size_minus (pos n) a b h p q e = omega arith
size_minus (negsuc n) a b h p q e = omega arith

-- ---- the range of an i64
pub in64 : (z : ℤ) (a b : ℕ) → Minus z a b → SFits w64 z → (a < b + 2 ^ 63) × (b ≤ a + 2 ^ 63)
in64 (pos n) a b h F = let l = F.sfits in (omega (arith, l), omega arith)
in64 (negsuc n) a b h F = let l = F.sfits in (omega arith, omega (arith, l))

pub fits64 : (z : ℤ) (a b : ℕ) → Minus z a b → a < b + 2 ^ 63 → b ≤ a + 2 ^ 63 → SFits w64 z
fits64 (pos n) a b h lo hi = record { sfits = omega (arith, lo, h) }
fits64 (negsuc n) a b h lo hi = record { sfits = omega (arith, hi, h) }

-- what the test of the range finds outside
pub over64 : (z : ℤ) (a b : ℕ) → Minus z a b → b + 2 ^ 63 ≤ a → ltb (mag z) (2 ^ 63) ≡ false
over64 (pos n) a b h l = le-ltb n (2 ^ 63) (omega (arith, l, h))
over64 (negsuc n) a b h l = absurd (omega (arith, l, h))

pub under64 : (z : ℤ) (a b : ℕ) → Minus z a b → a + 2 ^ 63 < b → ltb (mag z) (2 ^ 63) ≡ false
under64 (pos n) a b h l = absurd (omega (arith, l, h))
under64 (negsuc n) a b h l = le-ltb n (2 ^ 63) (omega (arith, l, h))
