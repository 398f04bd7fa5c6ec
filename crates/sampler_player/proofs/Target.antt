-- Up to which number of loops it catches up: `caught_to` is the first whose lengths reach `due`, and it is below 2^27.
-- The idea: a quotient rounded up; the loop is 63 frames or more, and the position is below 2^48 + 2^34. Assumes nothing.
use Prim.Native.Nat.{ℕ, zero, suc, ◌+◌, ◌-◌, ◌*◌, ◌^◌, ◌≤◌, ◌<◌}
use native.Mathlib.Nat.{le_refl, lt_of_not-le, mul-le-mul_right, mul-le-mul_left}
use native.Mathlib.Omega.{arith}
use mathlib.Core.Path.{◌≡◌, refl, sym, subst}
use mathlib.Core.Bool.{true, false, false≢true}
use borrow.Author.Tests.{ltb-true, lt-ltb, le-ltb}
use lib.IntN.{ℤ, pos, negsuc, nat_abs}
use lib.Signed.{lt_z}
use Rattle.laws.proofs.Minus.{Minus, above, below}
use Rattle.timestamp.specs.declared.Timestamp.{Timestamp}
use Rattle.sampler_player.specs.declared.Setup.{Setup}
use Rattle.sampler_player.specs.declared.Player.{Player}
use Rattle.sampler_player.proofs.Catch.{half_small}
use Rattle.sampler_player.proofs.Reaching.{too_few, enough, fewer}
use Rattle.sampler_player.proofs.Due.{Looping, length_is, some_length, due_is}
use Rattle.sampler_player.specs.inner.Stroke.{half_frame, loop_length, due, caught_to}

-- what is above a natural number is one
above_pos : (a : ℕ) (z : ℤ) → lt_z (pos a) z ≡ true → z ≡ pos (nat_abs z)
above_pos a (pos n) h = refl
above_pos a (negsuc n) h = absurd (false≢true h)

-- and its size
size_below : (z : ℤ) (a b n : ℕ) → z ≡ pos n → Minus z a b → n ≤ a
size_below z a b n e m = let k : n + b ≡ a = subst (λ (y : ℤ). Minus y a b) e m in omega arith

-- loops of 63 frames, of which all but the last are before a position: fewer than 2^27
few_loops : (len R n j : ℕ) → R ≤ 96000 → 63 * 2 ^ 32 ≤ len * R → n ≤ 2 ^ 48 + 2 ^ 34 + 2 ^ 42 + 2 ^ 19 → len * j < n → suc j < 2 ^ 27
few_loops len R n j hi h m l = lt_of_not-le many
  where
    many : 2 ^ 27 ≤ suc j → ⊥
    many k =
        let a : len * (2 ^ 27 - 1) ≤ len * j = mul-le-mul_left len (omega (arith, k)) in
        let b : (len * (2 ^ 27 - 1) + 1) * R ≤ (2 ^ 48 + 2 ^ 34 + 2 ^ 42 + 2 ^ 19) * R = mul-le-mul_right R (omega arith) in
        absurd (omega arith)

module _ (s : Setup) (lo : 8000 ≤ s.rate) (hi : s.rate ≤ 96000) (x : ℕ) (from end : Timestamp) (p : Player) (i : Looping s x from end p)
    (behind : lt_z (pos (loop_length from end * p.completed)) (due s.rate end p) ≡ true) where
  pub due_pos : due s.rate end p ≡ pos (nat_abs (due s.rate end p))
  due_pos = above_pos (loop_length from end * p.completed) (due s.rate end p) behind

  -- the length, how far it has to reach, and up to which number
  abbrev L : ℕ
  L = loop_length from end

  abbrev far : ℕ
  far = nat_abs (due s.rate end p)

  abbrev goal : ℕ
  goal = caught_to s.rate from end p

  long : 0 < L
  long = some_length s x from end p i

  before : (j : ℕ) → lt_z (pos (L * j)) (due s.rate end p) ≡ true → L * j < far
  before j h = ltb-true (L * j) far (subst (λ (z : ℤ). lt_z (pos (L * j)) z ≡ true) due_pos h)

  pub target_more : p.completed < goal
  target_more = fewer L p.completed long far (before p.completed behind)

  -- before it, every pass catches up, and there it doesn't
  pub target_below : (j : ℕ) → j < goal → lt_z (pos (L * j)) (due s.rate end p) ≡ true
  target_below j h = subst (λ (z : ℤ). lt_z (pos (L * j)) z ≡ true) (sym due_pos) (lt-ltb (L * j) far (too_few L j long far h))

  pub target_there : lt_z (pos (L * goal)) (due s.rate end p) ≡ false
  target_there = subst (λ (z : ℤ). lt_z (pos (L * goal)) z ≡ false) (sym due_pos) (le-ltb (L * goal) far (enough L goal long far (le_refl _)))

  due_small : far ≤ 2 ^ 48 + 2 ^ 34 + 2 ^ 42 + 2 ^ 19
  due_small =
      let up = above p.position.bits + nat_abs p.start.bits + half_frame s.rate in
      let down = below p.position.bits + (i.loop.len + i.loop.a) + 0 in
      let a = size_below (due s.rate end p) up down far due_pos (due_is s x from end p i) in
      let h = i.here.high in
      let t = i.begun.most in
      let f = half_small s.rate lo hi in
      omega (arith, a, h, t, f)

  -- "below 2^27"
  pub target_few : goal < 2 ^ 27
  target_few = go goal target_below
    where
      go : (c : ℕ) → ((j : ℕ) → j < c → lt_z (pos (L * j)) (due s.rate end p) ≡ true) → c < 2 ^ 27
      go zero f = omega arith
      go (suc j) f =
          few_loops i.loop.len s.rate far j hi i.loop.long due_small
          (subst (λ (y : ℕ). y * j < far) (length_is s x from end p i) (before j (f j (omega arith))))
