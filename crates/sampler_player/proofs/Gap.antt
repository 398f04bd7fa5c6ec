-- The interval in whole numbers, by the gap from the position to E: what the code works out is the definition's.
-- The idea: position and end as differences with one subtrahend (interval-int), of which the gap is the difference. Assumes nothing.
use Prim.Native.Nat.{ℕ, ◌+◌, ◌-◌, ◌*◌, ◌/◌, ◌^◌, ◌≤◌, ◌<◌, min}
use native.Mathlib.Nat.{add-zero, le_of_lt, mul-le-mul}
use native.Mathlib.Omega.{arith}
use mathlib.Core.Path.{◌≡◌, refl, sym, ap, ◌∙◌, subst}
use mathlib.Core.Bool.{Bool, true, false, cond}
use borrow.Author.Tests.{le-leb, lt-leb}
use lib.IntN.{ℤ, pos, nat_abs, ◌+ℤ◌, ◌-ℤ◌}
use Rattle.std.specs.Int.{w64}
use Rattle.std.proofs.Common.{SFits}
use Rattle.std.proofs.lemmas.Int.{ints}
use lib.Signed.{lt_z}
use Rattle.laws.proofs.Tests.{yes, no}
use Rattle.laws.proofs.Minus.{Minus, above, below, parts, shift, plus_minus, less_minus, lt_z_minus, nlt_z_minus}
use Rattle.timestamp.specs.Time.{time_of, frame_near, earlier}
use Rattle.timestamp.proofs.Time.{T-once, T-near}
use Rattle.timestamp.proofs.Frames.{short}
use Rattle.timestamp.proofs.Interval.{interval_int, frames_to}
use lib.Ieee.Nearest.{closest}
use Rattle.sampler_player.specs.declared.Setup.{Setup}
use Rattle.sampler_player.specs.declared.Player.{Player}
use Rattle.sampler_player.specs.Clock.{clock_at, not_negative}
use Rattle.sampler_player.specs.Pieces.{end_of, nearer, interval}
use Rattle.sampler_player.specs.inner.Kept.{kept}
use Rattle.sampler_player.specs.inner.Stroke.{last_stop}
use Rattle.sampler_player.proofs.Sized.{below_size, above_minus, stands_size}
use Rattle.sampler_player.proofs.Kept.{Stands, stands, opened}
use Rattle.sampler_player.proofs.Ends.{less, sees}

-- the interval from position P to the end E, of l frames, by the gap between the two
module _ (R l : ℕ) (lo : 8000 ≤ R) (hi : R ≤ 96000) (few : l ≤ 4096) (P E : ℤ) (ahead : above P ≤ 2 ^ 48 + 2 ^ 34) (behind : below P ≤ 2 ^ 20) (size : nat_abs E ≤ 2 ^ 49 + 2 ^ 42) where
  u : ℕ
  u = above P + below E

  A : ℕ
  A = above E + below P

  B : ℕ
  B = below P + below E

  t : ℕ
  t = closest (l * 2 ^ 32) R

  T-is : time_of R l ≡ pos t
  unfolding t
  T-is = T-once R l (omega arith) (omega arith) (omega arith)

  T-small : t < 2 ^ 35
  unfolding t
  T-small = (short R l t (omega arith) (omega arith) (T-near R l (omega arith) (omega arith) (omega arith)).1).0

  gap_is : Minus (E -ℤ P) A u
  unfolding A u
  gap_is = shift (E -ℤ P) (above E + below P) (below E + above P) (above E + below P) (above P + below E) (omega arith) (less_minus E P (above E) (below E) (above P) (below P) (parts E) (parts P))

  whole : min (frame_near R (earlier (P +ℤ time_of R l) E -ℤ P)) l ≡ frames_to R l t u A
  unfolding u A B t
  whole =
      let k = below_size E in
      interval_int R l P E u A B (omega arith) (omega arith) (omega arith) (omega arith)
      (shift P (above P) (below P) (above P + below E) (below P + below E) (omega arith) (parts P))
      (shift E (above E) (below E) (above E + below P) (below P + below E) (omega arith) (parts E))

  -- the end comes first
  pub before_end : lt_z (E -ℤ P) (time_of R l) ≡ true → min ((2 * (not_negative (E -ℤ P) * R) + 2 ^ 32) / 2 ^ 33) l ≡ min (frame_near R (earlier (P +ℤ time_of R l) E -ℤ P)) l
  before_end h =
      let k = lt_z_minus (E -ℤ P) (pos t) A u t 0 gap_is (add-zero t) (yes (ap (λ (z : ℤ). lt_z (E -ℤ P) z) (sym T-is) ∙ h)) in
      sym
      (whole ∙ ap (λ (b : Bool). cond b l (min ((2 * ((A - u) * R) + 2 ^ 32) / 2 ^ 33) l)) (lt-leb (u + t) A (omega arith))
      ∙ ap (λ (n : ℕ). min ((2 * (n * R) + 2 ^ 32) / 2 ^ 33) l) (sym (above_minus (E -ℤ P) A u gap_is)))

  pub gap_small : lt_z (E -ℤ P) (time_of R l) ≡ true → not_negative (E -ℤ P) < 2 ^ 35
  gap_small h =
      let k = lt_z_minus (E -ℤ P) (pos t) A u t 0 gap_is (add-zero t) (yes (ap (λ (z : ℤ). lt_z (E -ℤ P) z) (sym T-is) ∙ h)) in
      let e = above_minus (E -ℤ P) A u gap_is in
      let s = T-small in
      omega (arith, k, e, s)

  -- all that remains comes first
  pub to_end : lt_z (E -ℤ P) (time_of R l) ≡ false → l ≡ min (frame_near R (earlier (P +ℤ time_of R l) E -ℤ P)) l
  to_end h =
      let k = nlt_z_minus (E -ℤ P) (pos t) A u t 0 gap_is (add-zero t) (no (ap (λ (z : ℤ). lt_z (E -ℤ P) z) (sym T-is) ∙ h)) in
      sym (whole ∙ ap (λ (b : Bool). cond b l (min ((2 * ((A - u) * R) + 2 ^ 32) / 2 ^ 33) l)) (le-leb (u + t) A (omega arith)))

  -- a block's stop comes before the last
  pub stop_soon : lt_z (P +ℤ time_of R l) last_stop ≡ true
  stop_soon =
      let s = T-small in
      ap (λ (z : ℤ). lt_z (P +ℤ z) last_stop) T-is
      ∙ less (P +ℤ pos t) last_stop (above P + t) (below P + 0) (2 ^ 48 + 2 ^ 47) 0 (plus_minus P (pos t) (above P) (below P) t 0 (parts P) (add-zero t)) refl (omega arith)

-- what a call of the code's interval asks, and what it is told of the end E
pub record Asked (s : Setup) (l : ℕ) (p : Player) (E : ℤ) : Type 0 where
  pub slow : 8000 ≤ s.rate
  pub fast : s.rate ≤ 96000
  pub few : l ≤ 4096
  pub is : kept s l p ≡ true
  pub value : earlier last_stop E ≡ nearer (clock_at s.rate) s last_stop (end_of (clock_at s.rate) s p p.points)
  pub bound : nat_abs E ≤ 2 ^ 49 + 2 ^ 42

module _ {s : Setup} {l : ℕ} {p : Player} {E : ℤ} (a : Asked s l p E) where
  here : Stands l p.position.bits
  here = stands l p.position.bits a.few (opened s l p a.is).position

  ahead : above p.position.bits ≤ 2 ^ 48 + 2 ^ 34
  ahead = let h = here.high in omega (arith, h)

  pub gap_fits : SFits w64 (E -ℤ p.position.bits)
  gap_fits = let e = a.bound in let h = stands_size l p.position.bits here in omega (arith, ints, e, h)

  -- what the definition sees of E
  seen : interval (clock_at s.rate) s p l ≡ min (frame_near s.rate (earlier (p.position.bits +ℤ time_of s.rate l) E -ℤ p.position.bits)) l
  unfolding interval
  seen =
      ap (λ (z : ℤ). min (frame_near s.rate (z -ℤ p.position.bits)) l)
      (sees (p.position.bits +ℤ time_of s.rate l) (stop_soon s.rate l a.slow a.fast a.few p.position.bits E ahead here.low a.bound) s.rate s
      (end_of (clock_at s.rate) s p p.points) E a.value)

  pub asked_small : lt_z (E -ℤ p.position.bits) (time_of s.rate l) ≡ true → (u : ℕ) → u ≡ not_negative (E -ℤ p.position.bits) → u * s.rate ≤ 2 ^ 35 * 96000
  asked_small h u e =
      mul-le-mul (subst (λ (n : ℕ). n ≤ 2 ^ 35) (sym e) (le_of_lt (gap_small s.rate l a.slow a.fast a.few p.position.bits E ahead here.low a.bound h))) a.fast

  pub asked_before : lt_z (E -ℤ p.position.bits) (time_of s.rate l) ≡ true
      → min ((2 * (not_negative (E -ℤ p.position.bits) * s.rate) + 2 ^ 32) / 2 ^ 33) l ≡ interval (clock_at s.rate) s p l
  asked_before h = before_end s.rate l a.slow a.fast a.few p.position.bits E ahead here.low a.bound h ∙ sym seen

  pub asked_rest : lt_z (E -ℤ p.position.bits) (time_of s.rate l) ≡ false → l ≡ interval (clock_at s.rate) s p l
  asked_rest h = to_end s.rate l a.slow a.fast a.few p.position.bits E ahead here.low a.bound h ∙ sym seen
