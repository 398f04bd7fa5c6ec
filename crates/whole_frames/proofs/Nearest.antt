-- Nearest times within the limits of a sound leg `Fit` beside whole frames.
-- The idea: a nearest time as two inequalities; a loop that passes 12 has its end after its start in frames too. Assumes nothing.
use mathlib.Core.Path.{◌≡◌, subst}
use Prim.Native.Nat.{ℕ, ◌+◌, ◌-◌, ◌*◌, ◌^◌, ◌≤◌}
use native.Mathlib.Omega.{arith}
use mathlib.Core.Bool.{true}
use lib.IntN.{ℤ, pos, negsuc, nat_abs, ◌-ℤ◌}
use Rattle.laws.proofs.Near.{Near}
use Rattle.laws.proofs.Minus.{Minus, nat_minus}
use Rattle.timestamp.specs.declared.Timestamp.{Timestamp}
use Rattle.timestamp.proofs.Drift.{Drift}
use Rattle.sampler_event.proofs.UpTo.{within_up}
use Rattle.sampler_player.specs.declared.Points.{Points}
use Rattle.sampler_player.specs.declared.Points.TheVariants.{Absent, Between}
use Rattle.sampler_player.specs.declared.Setup.{Setup}
use Rattle.sampler_player.specs.declared.Player.{Player}
use Rattle.sampler_player.specs.Sound.{points_good}
use Rattle.sampler_player.proofs.Kept.{looped}
use Rattle.whole_frames.specs.Whole.{Loop, no_loop, loop, Nearest, NearestPoints}
use Rattle.whole_frames.proofs.Intervals.{FitsPoints, Fits}
use Rattle.whole_frames.proofs.Placed.{Placed}

-- ---- nearest, as two inequalities
sizes : (z : ℤ) (a b : ℕ) → Minus z a b → (a ≤ b + nat_abs z) × (b ≤ a + nat_abs z)
sizes (pos n) a b h = omega arith
sizes (negsuc n) a b h = omega arith

near_of : (R t f : ℕ) (x : Timestamp) → x.bits ≡ pos t → Nearest R x f → Near t (f * 2 ^ 32) R
near_of R t f x e h =
    let n = subst (λ (y : ℤ). Nearest R (record { bits = y }) f) e h in
    let k = sizes (pos (t * R) -ℤ pos (f * 2 ^ 32)) (t * R) (f * 2 ^ 32) (nat_minus (t * R) (f * 2 ^ 32)) in
    (omega (arith, n, k.0, k.1), omega (arith, n, k.0, k.1))

-- ---- between two parts: after k pieces of n frames together, with nothing said of limits
pub record Follows (R k n f : ℕ) (q : Loop) (p : Player) : Type 0 where
  pub at : ℕ
  pub position : p.position.bits ≡ pos at
  pub drift : Drift R k n at
  pub start : Nearest R p.start f
  pub points : NearestPoints R p.points q

fits_points : (s : Setup) (q : Loop) (w : Points) → s.rate ≤ 96000 → NearestPoints s.rate w q → points_good s w ≡ true → FitsPoints s.rate q w
fits_points s no_loop Absent r h g = tt
fits_points s no_loop (Between from end) r h g = absurd h
fits_points s (loop x y) Absent r h g = absurd h
fits_points s (loop x y) (Between from end) r h g =
    let o = looped s from end g in
    let u = near_of s.rate o.a x from o.start h.0 in
    let v = near_of s.rate (o.len + o.a) y end o.finish h.1 in
    let e : y ≡ y - x + x = apart s.rate o.a o.len x y r u v o.long in
    record {
      ta = o.a;
      m = o.len;
      f = y - x;
      starts = o.start;
      ends = o.finish;
      frames = e;
      most = o.early;
      near_start = u;
      near_end = subst (λ (z : ℕ). Near (o.len + o.a) (z * 2 ^ 32) s.rate) e v;
    }
  where
    apart : (R a len x y : ℕ) → R ≤ 96000 → Near a (x * 2 ^ 32) R → Near (len + a) (y * 2 ^ 32) R → 63 * 2 ^ 32 ≤ len * R → y ≡ y - x + x
    apart R a len x y r u v l = omega arith

pub fits_of : (s : Setup) (k n f : ℕ) (q : Loop) (p : Player) → s.rate ≤ 96000 → Placed s p → Follows s.rate k n f q p → Fits s.rate k n f q p
fits_of s k n f q p r g i =
    let u = within_up (2 ^ 42) p.start.bits g.start in
    record {
      at = i.at;
      position = i.position;
      drift = i.drift;
      from = nat_abs p.start.bits;
      start = u.is;
      most = u.most;
      near = near_of s.rate (nat_abs p.start.bits) f p.start u.is i.start;
      points = fits_points s q p.points r i.points g.points;
    }
