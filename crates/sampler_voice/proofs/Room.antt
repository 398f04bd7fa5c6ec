-- A frame of a channel that is mixed stands within a list that has room for the channels, at the index that the code computes.
-- The idea: `entry` counted out for channel 0 and channel 1, which either side has where both are mixed. Assumes nothing.
use Prim.Native.Nat.{ℕ, ◌+◌, ◌*◌, ◌<◌, ◌≤◌, min}
use mathlib.Core.Path.{◌≡◌}
use mathlib.Core.Bool.{true, false, cond}
use mathlib.Core.List.{List}
use native.Mathlib.Omega.{arith}
use native.Mathlib.Nat.{mul-le-mul_right}
use lib.ListN.{length, get_or}
use lib.Ieee.{Float, nan}
use borrow.Author.Tests.{eqb-true}
use Rattle.sampler_fade.specs.Entry.{none}
use Rattle.sampler_voice.specs.declared.Channels.{Channels}
use Rattle.sampler_voice.specs.declared.Pair.{Pair}
use Rattle.sampler_voice.specs.Sound.{cleaned, both_mixed, entry, fetched, add_at, added}
use Rattle.sampler_voice.specs.inner.Room.{Room}

pub first : (c n j : ℕ) (xs : List Float) → Room c n xs → j < n → j < length xs
first c n j xs h l =
    let m : 1 * n ≤ c * n = mul-le-mul_right n h.0 in
    omega (arith, m, h.1)

pub second : (c n j : ℕ) (xs : List Float) → 2 ≤ c → Room c n xs → j < n → n + j < length xs
second c n j xs w h l =
    let m : 2 * n ≤ c * n = mul-le-mul_right n w in
    omega (arith, m, h.1)

pub both_there : (ch : Channels) → both_mixed ch ≡ true → (2 ≤ ch.recording) × (2 ≤ ch.output)
both_there ch e =
    let m : min ch.recording ch.output ≡ 2 = eqb-true (min ch.recording ch.output) 2 e in
    omega arith

pub same : (c n : ℕ) (xs ys : List Float) → length ys ≡ length xs → Room c n xs → Room c n ys
same c n xs ys e h = rw e h

-- the places that the code computes are the definition's
left : (c n j : ℕ) → entry c n 0 j ≡ j
left c n j = omega arith

right : (c n j : ℕ) → entry c n 1 j ≡ n + j
right c n j = omega arith

module _ (rec : List Float) (rn : ℕ) (ch : Channels) (p : ℕ) where
  pub fetched_two : both_mixed ch ≡ true → fetched rec rn ch p ≡ record { left = cleaned (get_or rec p nan); right = cleaned (get_or rec (rn + p) nan) }
  unfolding fetched
  fetched_two e = λ i. record { left = cleaned (get_or rec (left ch.recording rn p i) nan); right = cond (e i) (cleaned (get_or rec (right ch.recording rn p i) nan)) none }

  pub fetched_one : both_mixed ch ≡ false → fetched rec rn ch p ≡ record { left = cleaned (get_or rec p nan); right = none }
  unfolding fetched
  fetched_one e = λ i. record { left = cleaned (get_or rec (left ch.recording rn p i) nan); right = cond (e i) (cleaned (get_or rec (right ch.recording rn p i) nan)) none }

module _ (n : ℕ) (ch : Channels) (j : ℕ) (p : Pair) (out : List Float) where
  pub added_two : both_mixed ch ≡ true → added n ch j p out ≡ add_at (n + j) p.right (add_at j p.left out)
  unfolding added
  added_two e = λ i. cond (e i) (add_at (right ch.output n j i) p.right (add_at (left ch.output n j i) p.left out)) (add_at (left ch.output n j i) p.left out)

  pub added_one : both_mixed ch ≡ false → added n ch j p out ≡ add_at j p.left out
  unfolding added
  added_one e = λ i. cond (e i) (add_at (right ch.output n j i) p.right (add_at (left ch.output n j i) p.left out)) (add_at (left ch.output n j i) p.left out)
