-- An admissible event keeps `kept`, at a delay within the position's limits.
-- The idea: Start assigns at most 2^42 + 2^48 + 2^34 units in, which is below 2^39 frames; the other kinds change no number. Assumes nothing.
use Prim.Native.Nat.{ℕ, ◌+◌, ◌-◌, ◌*◌, ◌^◌, ◌≤◌}
use native.Mathlib.Nat.{add-zero}
use native.Mathlib.Omega.{arith}
use mathlib.Core.Path.{◌≡◌, refl, sym, ap, subst}
use mathlib.Core.Bool.{true, false, not}
use borrow.Author.Tests.{not-false}
use lib.IntN.{ℤ, pos, neg_ℤ, nat_abs, ◌+ℤ◌}
use Rattle.laws.proofs.Minus.{Minus, above, below, parts, plus_minus}
use Rattle.timestamp.specs.declared.Timestamp.{Timestamp}
use Rattle.sampler_event.specs.declared.Kind.{Kind}
use Rattle.sampler_event.specs.declared.Kind.TheVariants.{Start, StartImmediate, Stop, EnableLoop, CancelLoop, CancelAll}
use Rattle.laws.specs.Rules.{within}
use Rattle.sampler_event.specs.Limits.{place_bad, positions_bad, loop_bad}
use Rattle.sampler_event.proofs.UpTo.{place_up}
use Rattle.sampler_player.specs.declared.Points.{Points}
use Rattle.sampler_player.specs.declared.Points.TheVariants.{Absent, Between}
use Rattle.sampler_player.specs.declared.Setup.{Setup}
use Rattle.sampler_player.specs.declared.Player.{Player}
use Rattle.sampler_player.specs.Clock.{clock_at}
use Rattle.sampler_player.specs.Assign.{stop, assign}
use Rattle.sampler_player.specs.Events.{pointed, begun, apply}
use Rattle.sampler_player.specs.Sound.{points_good}
use Rattle.sampler_player.specs.inner.Kept.{kept}
use Rattle.sampler_player.proofs.Kept.{opened, closed, loops_opened, loops_closed, stands, stands_within}
use Rattle.laws.proofs.Tests.{both}
use Rattle.sampler_player.proofs.Assigned.{stop_kept, assign_kept}

-- the two parts of an event's effect that are not voices
module _ (s : Setup) (x : ℕ) where
  pub pointed_kept : (q : Points) (p : Player) → points_good s q ≡ true → kept s x p ≡ true → kept s x (pointed q p) ≡ true
  pointed_kept q p h k =
      let o = opened s x p k in
      let l = loops_opened s p o.loops in
      closed s x (pointed q p)
      (record { active = o.active; voices = o.voices; position = o.position; loops = loops_closed s (pointed q p) (record { few = l.few; start = l.start; points = h }) })

  pub begun_kept : (u : Timestamp) (z : ℤ) (p : Player) → within (pos 0) (pos (2 ^ 42)) u.bits ≡ true
      → within (neg_ℤ (pos (2 ^ 20))) (pos (2 ^ 48 + 2 ^ 34 - x * 2 ^ 20)) z ≡ true → kept s x p ≡ true → kept s x (begun u z p) ≡ true
  begun_kept u z p h g k =
      let o = opened s x p k in
      let l = loops_opened s p o.loops in
      closed s x (begun u z p)
      (record { active = o.active; voices = o.voices; position = g; loops = loops_closed s (begun u z p) (record { few = omega arith; start = h; points = l.points }) })

  module _ (hi : s.rate ≤ 96000) (small : x ≤ 4096) where
    start_kept : (u : Timestamp) (z : ℤ) (p : Player) → place_bad u.bits ≡ false → within (neg_ℤ (pos (2 ^ 20))) (pos (2 ^ 48 + 2 ^ 34 - x * 2 ^ 20)) z ≡ true → kept s x p ≡ true
        → kept s x (begun u z (assign (clock_at s.rate) (u.bits +ℤ z) p)) ≡ true
    start_kept u z p h g k =
        let y = place_up u.bits h in
        let n = nat_abs u.bits in
        let d = stands x z small g in
        let a = y.most in
        let b = d.high in
        let c = d.low in
        begun_kept u z (assign (clock_at s.rate) (u.bits +ℤ z) p) (not-false (within (pos 0) (pos (2 ^ 42)) u.bits) h) g
        (assign_kept s x (u.bits +ℤ z) (n + above z) (0 + below z) p hi small
        (plus_minus u.bits z n 0 (above z) (below z) (subst (λ (t : ℤ). Minus t n 0) (sym y.is) (add-zero n)) (parts z)) (omega arith) (omega arith) k)

    now_kept : (p : Player) → kept s x p ≡ true → kept s x (begun (record { bits = pos 0 }) (pos 0) (assign (clock_at s.rate) (pos 0) p)) ≡ true
    now_kept p k =
        begun_kept (record { bits = pos 0 }) (pos 0) (assign (clock_at s.rate) (pos 0) p) refl (stands_within x (pos 0) (record { high = omega arith; low = omega arith }))
        (assign_kept s x (pos 0) 0 0 p hi small refl (omega arith) (omega arith) k)

    pub apply_kept : (e : Kind) (z : ℤ) (p : Player) → positions_bad e ≡ false → loop_bad s.rate s.fade e ≡ false
        → within (neg_ℤ (pos (2 ^ 20))) (pos (2 ^ 48 + 2 ^ 34 - x * 2 ^ 20)) z ≡ true → kept s x p ≡ true → kept s x (apply s.rate e z p) ≡ true
    unfolding apply
    apply_kept (Start u) z p h g d k = start_kept u z p h d k
    apply_kept StartImmediate z p h g d k = now_kept p k
    apply_kept Stop z p h g d k = stop_kept s x p k
    apply_kept (EnableLoop from end) z p h g d k = pointed_kept (Between from end) p (both (ap not h) (ap not g)) k
    apply_kept CancelLoop z p h g d k = pointed_kept Absent p refl k
    apply_kept CancelAll z p h g d k = pointed_kept Absent (stop p) refl (stop_kept s x p k)
