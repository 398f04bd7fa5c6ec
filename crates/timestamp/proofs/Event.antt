-- An event's frame in a block: the floor of its own time, never behind what is rendered, always inside; and its delay. Times are counted from the block's start.
-- The idea: d is the event's time, u the current one, after k pieces of p frames together; later events have no smaller d, so p * 2 ^ 32 ≤ d * R goes from each to the next. Assumes nothing.
use Rattle.std.proofs.Common.{◌≡◌, ℕ, suc, ◌+◌, ◌*◌, ◌/◌, ◌^◌, ◌<◌, ◌≤◌, max, Bool, true, false, not, T, leb, ap, ◌∙◌, le_of_lt, mul-le-mul_right, arith, leb→le}
use native.Mathlib.Nat.{max-eq_left, max-eq_right}
use lib.Dec.{nleb→lt}
use Rattle.laws.proofs.Near.{Near}
use Rattle.timestamp.proofs.Drift.{Drift}

-- ---- the current time may be a few units past the event's, and that does not move the event's frame
later_frame : (R k p u d : ℕ) → k * R < 2 ^ 32 → Drift R k p u → p * 2 ^ 32 ≤ d * R → d ≤ u → u * R / 2 ^ 32 ≡ d * R / 2 ^ 32
later_frame R k p u d s a h l = let m : d * R ≤ u * R = mul-le-mul_right R l in omega arith

pub event_frame : (R k p u d : ℕ) → k * R < 2 ^ 32 → Drift R k p u → p * 2 ^ 32 ≤ d * R → max d u * R / 2 ^ 32 ≡ d * R / 2 ^ 32
event_frame R k p u d s a h = go (leb d u) (leb→le d u) (nleb→lt d u)
  where
    go : (b : Bool) → (T b → d ≤ u) → (T (not b) → u < d) → max d u * R / 2 ^ 32 ≡ d * R / 2 ^ 32
    go true l g = ap (λ (z : ℕ). z * R / 2 ^ 32) (max-eq_right (l tt)) ∙ later_frame R k p u d s a h (l tt)
    go false l g = ap (λ (z : ℕ). z * R / 2 ^ 32) (max-eq_left (le_of_lt (g tt)))

-- ---- an event before the block's end, T of its N frames, falls on one of them; and none goes back behind p
pub event_inside : (R N t d : ℕ) → 0 < R → Near t (N * 2 ^ 32) R → d < t → d * R / 2 ^ 32 < N
event_inside R N t d r n h = let m : suc d * R ≤ t * R = mul-le-mul_right R h in omega arith

pub event_after : (R p d : ℕ) → p * 2 ^ 32 ≤ d * R → p ≤ d * R / 2 ^ 32
event_after R p d h = omega arith

-- what the next event starts from
pub event_next : (R d e : ℕ) → d ≤ e → d * R / 2 ^ 32 * 2 ^ 32 ≤ e * R
event_next R d e h = let m : d * R ≤ e * R = mul-le-mul_right R h in omega arith

-- ---- the delay after the pieces up to the event's frame: v units are gone then, and v - d is above minus a frame and k / 2 units, and k / 2 units at most
pub event_delay : (R k d v : ℕ) → Drift R k (d * R / 2 ^ 32) v → (2 * (d * R) < 2 * (v * R) + 2 ^ 33 + k * R) × (2 * (v * R) ≤ 2 * (d * R) + k * R)
event_delay R k d v a = omega arith
