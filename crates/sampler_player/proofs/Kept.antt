-- The invariant `kept` taken apart and put together again, and its limits in natural numbers.
-- The idea: a conjunction of tests is a record of facts, and an integer is a difference of two natural numbers. Assumes nothing.
use Prim.Native.Nat.{ℕ, ◌+◌, ◌-◌, ◌*◌, ◌^◌, ◌≤◌, max}
use native.Mathlib.Nat.{le-max_right}
use native.Mathlib.Omega.{arith}
use mathlib.Core.Path.{◌≡◌, refl, ap, ◌∙◌, subst₂}
use mathlib.Core.Bool.{Bool, true, false, ◌&&◌, ◌||◌, not, true≢false}
use borrow.Author.Tests.{leb-true, leb-false, le-leb, not-true, ltb-false}
use lib.Dec.{leb}
use lib.IntN.{ℤ, pos, negsuc, neg_ℤ, nat_abs}
use lib.Signed.{le_z}
use Rattle.laws.proofs.Tests.{both, one_of, other_of, neither}
use Rattle.laws.proofs.Minus.{Minus, above, below}
use Rattle.timestamp.specs.declared.Timestamp.{Timestamp}
use Rattle.laws.specs.Rules.{within}
use Rattle.sampler_event.specs.Limits.{place_bad, loop_short}
use Rattle.sampler_event.proofs.UpTo.{place_up, short_back, short_on}
use Rattle.sampler_player.specs.declared.Points.TheVariants.{Between}
use Rattle.sampler_player.specs.declared.Setup.{Setup}
use Rattle.sampler_player.specs.declared.Player.{Player}
use Rattle.sampler_player.specs.Sound.{active_good, points_good, loop_good}
use Rattle.sampler_player.specs.inner.Kept.{voices_kept, kept}

-- ---- the tests of `kept`
pub record Kept (s : Setup) (x : ℕ) (p : Player) : Type 0 where
  pub active : active_good p.active p.voices ≡ true
  pub voices : voices_kept s.fade x p.voices ≡ true
  pub position : within (neg_ℤ (pos (2 ^ 20))) (pos (2 ^ 48 + 2 ^ 34 - x * 2 ^ 20)) p.position.bits ≡ true
  pub loops : loop_good s p ≡ true

pub opened : (s : Setup) (x : ℕ) (p : Player) → kept s x p ≡ true → Kept s x p
unfolding kept
opened s x p h =
    let a = active_good p.active p.voices in
    let v = voices_kept s.fade x p.voices in
    let z = within (neg_ℤ (pos (2 ^ 20))) (pos (2 ^ 48 + 2 ^ 34 - x * 2 ^ 20)) p.position.bits in
    let l = loop_good s p in
    let f : (a && v) ≡ true = one_of (a && v) (z && l) h in
    let g : (z && l) ≡ true = other_of (a && v) (z && l) h in
    record { active = one_of a v f; voices = other_of a v f; position = one_of z l g; loops = other_of z l g }

pub closed : (s : Setup) (x : ℕ) (p : Player) → Kept s x p → kept s x p ≡ true
unfolding kept
closed s x p k = both (both k.active k.voices) (both k.position k.loops)

-- ---- the tests of `loop_good`
pub record Loops (s : Setup) (p : Player) : Type 0 where
  pub few : p.completed ≤ 2 ^ 27
  pub start : within (pos 0) (pos (2 ^ 42)) p.start.bits ≡ true
  pub points : points_good s p.points ≡ true

pub loops_opened : (s : Setup) (p : Player) → loop_good s p ≡ true → Loops s p
loops_opened s p h =
    let c = leb p.completed (2 ^ 27) in
    let u = within (pos 0) (pos (2 ^ 42)) p.start.bits in
    let q = points_good s p.points in
    let g : (u && q) ≡ true = other_of c (u && q) h in
    record { few = leb-true p.completed (2 ^ 27) (one_of c (u && q) h); start = one_of u q g; points = other_of u q g }

pub loops_closed : (s : Setup) (p : Player) → Loops s p → loop_good s p ≡ true
loops_closed s p l = both (le-leb p.completed (2 ^ 27) l.few) (both l.start l.points)

-- ---- a position: what it has above 0, with room for x frames more, and what below
pub record Stands (x : ℕ) (z : ℤ) : Type 0 where
  pub high : above z + x * 2 ^ 20 ≤ 2 ^ 48 + 2 ^ 34
  pub low : below z ≤ 2 ^ 20

pub stands : (x : ℕ) (z : ℤ) → x ≤ 4096 → within (neg_ℤ (pos (2 ^ 20))) (pos (2 ^ 48 + 2 ^ 34 - x * 2 ^ 20)) z ≡ true → Stands x z
stands x (pos n) l h = let k = leb-true n (2 ^ 48 + 2 ^ 34 - x * 2 ^ 20) h in record { high = omega arith; low = omega arith }
stands x (negsuc n) l h =
    let t = le_z (neg_ℤ (pos (2 ^ 20))) (negsuc n) in
    let k = leb-true n (2 ^ 20 - 1) (one_of t true h) in
    record { high = omega arith; low = omega arith }

pub stands_within : (x : ℕ) (z : ℤ) → Stands x z → within (neg_ℤ (pos (2 ^ 20))) (pos (2 ^ 48 + 2 ^ 34 - x * 2 ^ 20)) z ≡ true
stands_within x (pos n) h = le-leb n (2 ^ 48 + 2 ^ 34 - x * 2 ^ 20) (omega arith)
stands_within x (negsuc n) h = both (le-leb n (2 ^ 20 - 1) (omega arith)) refl

-- the same of any difference
pub stands_at : (x : ℕ) (z : ℤ) (w v : ℕ) → x ≤ 4096 → Minus z w v → w + x * 2 ^ 20 ≤ 2 ^ 48 + 2 ^ 34 + v → v ≤ w + 2 ^ 20 → Stands x z
stands_at x (pos n) w v l m h k = record { high = omega arith; low = omega arith }
stands_at x (negsuc n) w v l m h k = record { high = omega arith; low = omega arith }

-- ---- loop points, from a to a + len, 63 frames apart or more
pub record Looped (s : Setup) (from end : Timestamp) : Type 0 where
  pub a : ℕ
  pub len : ℕ
  pub start : from.bits ≡ pos a
  pub finish : end.bits ≡ pos (len + a)
  pub early : len + a ≤ 2 ^ 42
  pub long : 63 * 2 ^ 32 ≤ len * s.rate

looped_at : (s : Setup) (from end : Timestamp) (a e : ℕ) → from.bits ≡ pos a → end.bits ≡ pos e → e ≤ 2 ^ 42
    → loop_short s.rate s.fade (pos a) (pos e) ≡ false → Looped s from end
looped_at s from end a e p q l h = go (leb a e) refl
  where
    long : a ≤ e → 63 * 2 ^ 32 ≤ (e - a) * s.rate
    long k =
        let m = le-max_right s.fade 64 in
        let n = ltb-false ((e - a) * s.rate + 2 ^ 31) (max s.fade 64 * 2 ^ 32) (short_on s.rate s.fade a e k ∙ h) in
        omega (arith, m, n)

    go : (t : Bool) → leb a e ≡ t → Looped s from end
    go true k =
        let g = leb-true a e k in
        record { a = a; len = e - a; start = p; finish = q ∙ ap pos (omega arith); early = omega arith; long = long g }
    go false k = absurd (true≢false (short_back s.rate s.fade a e (omega (arith, leb-false a e k)) ∙ h))

pub looped : (s : Setup) (from end : Timestamp) → points_good s (Between from end) ≡ true → Looped s from end
looped s from end h =
    let x = place_bad from.bits || place_bad end.bits in
    let y = loop_short s.rate s.fade from.bits end.bits in
    let f : x ≡ false = not-true x (one_of (not x) (not y) h) in
    let g : y ≡ false = not-true y (other_of (not x) (not y) h) in
    let a = place_up from.bits (neither (place_bad from.bits) (place_bad end.bits) f).0 in
    let e = place_up end.bits (neither (place_bad from.bits) (place_bad end.bits) f).1 in
    looped_at s from end (nat_abs from.bits) (nat_abs end.bits) a.is e.is e.most
    (subst₂ (λ (m n : ℤ). loop_short s.rate s.fade m n ≡ false) a.is e.is g)
