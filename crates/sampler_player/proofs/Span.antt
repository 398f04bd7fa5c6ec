-- A loop in numbers, for the code: the sizes of its points, of its length and of the first end, from `kept`; and T of a recording.
-- The idea: `Looping` (proofs/Due) has the points as natural numbers of at most 2 ^ 42. Assumes nothing.
use Prim.Native.Nat.{ℕ, ◌+◌, ◌*◌, ◌^◌, ◌≤◌, ◌<◌}
use native.Mathlib.Nat.{mul-le-mul_left}
use native.Mathlib.Omega.{arith}
use mathlib.Core.Path.{◌≡◌, sym, ap, ◌∙◌, subst, subst₂}
use mathlib.Core.Bool.{true}
use lib.IntN.{ℤ, pos, nat_abs, ◌-ℤ◌}
use Rattle.laws.proofs.Minus.{nat_minus, size_minus}
use Rattle.timestamp.specs.declared.Timestamp.{Timestamp}
use Rattle.timestamp.specs.Time.{time_of}
use Rattle.timestamp.proofs.Time.{T-wide}
use Rattle.sampler_player.specs.declared.Setup.{Setup}
use Rattle.sampler_player.specs.declared.Points.TheVariants.{Between}
use Rattle.sampler_player.specs.declared.Player.{Player}
use Rattle.sampler_player.specs.inner.Kept.{kept}
use Rattle.sampler_player.specs.inner.Stroke.{loop_length}
use Rattle.sampler_player.proofs.Due.{Looping, looping, length_pos, length_is, some_length}
use Rattle.sampler_player.proofs.Sized.{stands_size}

-- ---- the sizes
pub record Span (s : Setup) (from end : Timestamp) (p : Player) : Type 0 where
  pub numbers : Looping s 0 from end p
  pub first_size : nat_abs (end.bits -ℤ p.start.bits) ≤ 2 ^ 42
  pub length : end.bits -ℤ from.bits ≡ pos (loop_length from end)
  pub some_length : 0 < loop_length from end
  pub length_size : loop_length from end ≤ 2 ^ 42
  pub position_size : nat_abs p.position.bits ≤ 2 ^ 49

module _ (s : Setup) (from end : Timestamp) (p : Player) (i : Looping s 0 from end p) where
  sizes : Span s from end p
  sizes =
      let e = i.loop.early in
      let l = length_is s 0 from end p i in
      let finish = i.loop.len + i.loop.a in
      let st = nat_abs p.start.bits in
      record {
        numbers = i;
        first_size =
            subst₂ (λ (y z : ℤ). nat_abs (y -ℤ z) ≤ 2 ^ 42) (sym i.loop.finish) (sym i.begun.is)
            (size_minus (pos finish -ℤ pos st) finish st (2 ^ 42) e i.begun.most (nat_minus finish st));
        length = length_pos s 0 from end p i ∙ ap pos (sym l);
        some_length = some_length s 0 from end p i;
        length_size = omega (arith, l, e);
        position_size = stands_size 0 p.position.bits i.here;
      }

pub span : (s : Setup) (from end : Timestamp) (p : Player) → kept s 0 p ≡ true → p.points ≡ Between from end → Span s from end p
span s from end p k q = sizes s from end p (looping s 0 from end p (omega arith) q k)

-- ---- T of a recording
pub T-size : (R n : ℕ) → 8000 ≤ R → R ≤ 96000 → n ≤ 4194304 → nat_abs (time_of R n) ≤ 2 ^ 49 + 2 ^ 42
T-size R n lo hi h =
    let w = T-wide R n (omega arith) (omega arith) (omega arith) in
    subst (λ (z : ℤ). nat_abs z ≤ 2 ^ 49 + 2 ^ 42) (sym w.1) (small w.0 w.2.0)
  where
    small : (t : ℕ) → 2 ^ 21 * (t * R) ≤ 2 ^ 21 * (n * 2 ^ 32) + 2 ^ 20 * R + n → t ≤ 2 ^ 49 + 2 ^ 42
    small t k = let m : t * 8000 ≤ t * R = mul-le-mul_left t lo in omega arith
