-- How many loops of a length reach a number (`reaching`), and when the loops so far are too few: for the definitions' catch-up and for the code's count.
-- The idea: a quotient, and one rounded up. Assumes nothing.
use Prim.Native.Nat.{ℕ, suc, ◌-◌, ◌+◌, ◌*◌, ◌/◌, ◌%◌, ◌≤◌, ◌<◌, min}
use native.Mathlib.Nat.{le_trans, lt_of_not-le, not-le_of_lt, mul_comm, mul-le-mul_left, mul-le-mul_right, mul-div-le, lt-div-mul-add}
use native.Mathlib.Omega.{arith}
use mathlib.Core.Path.{◌≡◌, refl, subst}
use mathlib.Core.Bool.{true, false}
use borrow.Author.Tests.{lt-ltb, le-ltb}
use lib.IntN.{ℤ, pos, negsuc, nat_abs}
use lib.Signed.{lt_z}
use Rattle.std.proofs.lemmas.Grind.{div_ceil_times}
use Rattle.sampler_player.specs.Clock.{not_negative}
use Rattle.sampler_player.specs.inner.Stroke.{reaching}

-- ---- a product by its quotient
pub few_reach : (L c n : ℕ) → c ≤ n / L → L * c ≤ n
few_reach L c n h = le_trans (mul-le-mul_left L h) (mul-div-le n L)

pub many_reach : (L c n : ℕ) → 0 < L → n / L < c → n < L * c
many_reach L c n p h =
    let a = lt-div-mul-add {a = n} {b = L} p in
    let b : suc (n / L) * L ≤ c * L = mul-le-mul_right L h in
    subst (λ (y : ℕ). n < y) (mul_comm c L) (omega (arith, a, b))

module _ (L c : ℕ) (some_length : 0 < L) where
  -- ---- the same of a quotient rounded up
  pub too_few : (n : ℕ) → c < reaching L n → L * c < n
  too_few n h = let k : L * suc c ≤ n + L - 1 = few_reach L (suc c) (n + L - 1) h in omega (arith, k)

  pub enough : (n : ℕ) → reaching L n ≤ c → n ≤ L * c
  enough n h = let k : n + L - 1 < L * suc c = many_reach L (suc c) (n + L - 1) some_length (omega (arith, h)) in omega (arith, k)

  pub fewer : (n : ℕ) → L * c < n → c < reaching L n
  fewer n h = lt_of_not-le (λ (k : reaching L n ≤ c). not-le_of_lt h (enough n k))

  -- ---- and of a number that may be negative
  pub behind : (z : ℤ) → c < reaching L (not_negative z) → lt_z (pos (L * c)) z ≡ true
  behind (pos n) h = lt-ltb (L * c) n (too_few n h)
  behind (negsuc n) h = absurd (let k = too_few 0 h in omega (arith, k))

  pub reached : (z : ℤ) → reaching L (not_negative z) ≤ c → lt_z (pos (L * c)) z ≡ false
  reached (pos n) h = le-ltb (L * c) n (enough n h)
  reached (negsuc n) h = refl

  pub behind_size : (z : ℤ) → c < reaching L (not_negative z) → not_negative z ≡ nat_abs z
  behind_size (pos n) h = refl
  behind_size (negsuc n) h = absurd (let k = too_few 0 h in omega (arith, k))

-- std's `div_ceil` counts the same
pub ceil_is : (L n : ℕ) → 0 < L → n / L + min 1 (n % L) ≡ reaching L n
ceil_is L n h =
    let q = n / L + min 1 (n % L) in
    let r = reaching L n in
    let b = div_ceil_times n L h in
    let s : L * q ≡ q * L = mul_comm L q in
    let above : q < r → ⊥ = λ k. let t = too_few L q h n k in omega (arith, t, b.0, s) in
    let below : r < q → ⊥ = λ k. let e = enough L r h n (omega arith) in let m : L * suc r ≤ L * q = mul-le-mul_left L k in omega (arith, e, m, s, b.1) in
    omega (arith, above, below)
