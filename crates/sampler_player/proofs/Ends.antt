-- E up to the last stop: in whole numbers it is first + length * completed, and a stop of a block sees no more of it.
-- The idea: E is exact up to 2 ^ 49 units, and beyond both are later than the last stop (E-exact, E-late); a block's stops come before that. Assumes nothing.
use Prim.Native.Nat.{ℕ, ◌+◌, ◌*◌, ◌^◌, ◌≤◌, ◌<◌}
use native.Mathlib.Nat.{le_trans, add-zero}
use native.Mathlib.Omega.{arith}
use mathlib.Core.Path.{◌≡◌, refl, sym, ap, ◌∙◌}
use mathlib.Core.Bool.{Bool, true, false, not, cond}
use mathlib.Core.Option.{Option, none, some}
use borrow.Author.Tests.{leb-true, leb-false, lt-ltb}
use lib.Dec.{T, leb, ltb, lit≤}
use lib.IntN.{ℤ, pos, nat_abs, ◌+ℤ◌}
use lib.Signed.{mag, lt_z}
use Rattle.std.specs.Int.{w64}
use Rattle.std.proofs.Common.{SFits}
use Rattle.std.proofs.lemmas.Int.{ints}
use Rattle.laws.proofs.Minus.{Minus, above, below, parts, plus_minus, nlt_z_minus}
use Rattle.timestamp.specs.Time.{earlier, loop_end}
use Rattle.timestamp.specs.Answer.{fitting}
use Rattle.timestamp.proofs.Loop.{E-exact, E-late}
use Rattle.sampler_player.specs.declared.Setup.{Setup}
use Rattle.sampler_player.specs.Clock.{clock_at}
use Rattle.sampler_player.specs.Pieces.{nearer}
use Rattle.sampler_player.specs.inner.Stroke.{last_stop}
use Rattle.sampler_player.proofs.Sized.{below_size}

-- ---- the earlier of two times
chosen : (a b : ℤ) (t : Bool) → lt_z a b ≡ t → earlier a b ≡ cond t a b
chosen a b t e = ap (λ (x : Bool). cond x a b) e

pub less : (x y : ℤ) (a b c d : ℕ) → Minus x a b → Minus y c d → a + d < c + b → lt_z x y ≡ true
less x y a b c d h k l = go (lt_z x y) (nlt_z_minus x y a b c d h k)
  where
    go : (t : Bool) → (T (not t) → c + b ≤ a + d) → t ≡ true
    go true f = refl
    go false f = absurd (let z = f tt in omega arith)

-- what is later than the last stop
pub late : (e : ℤ) (a b : ℕ) → Minus e a b → b + (2 ^ 48 + 2 ^ 47) < a → earlier last_stop e ≡ last_stop
late e a b m h = chosen last_stop e true (less last_stop e (2 ^ 48 + 2 ^ 47) 0 a b refl m (omega arith))

-- a stop before the last: the earlier of it and E, and of it and E up to the last
module _ (t : ℤ) (soon : lt_z t last_stop ≡ true) where
  later_still : (e : ℤ) → lt_z last_stop e ≡ true → lt_z t e ≡ true
  later_still e h = grind (arith, ints)

  up_to_lem : (e : ℤ) → earlier t (earlier last_stop e) ≡ earlier t e
  up_to_lem e = go (lt_z last_stop e) refl
    where
      go : (b : Bool) → lt_z last_stop e ≡ b → earlier t (cond b last_stop e) ≡ earlier t e
      go true h = chosen t last_stop true soon ∙ sym (chosen t e true (later_still e h))
      go false h = refl

  pub sees : (R : ℕ) (s : Setup) (o : Option ℤ) (e : ℤ) → earlier last_stop e ≡ nearer (clock_at R) s last_stop o → nearer (clock_at R) s t o ≡ earlier t e
  sees R s none e h = sym (chosen t last_stop true soon) ∙ ap (λ (x : ℤ). earlier t x) (sym h) ∙ up_to_lem e
  sees R s (some z) e h = sym (up_to_lem z) ∙ ap (λ (x : ℤ). earlier t x) (sym h) ∙ up_to_lem e

-- ---- E with a loop
module _ (R : ℕ) (s : Setup) (r : 0 < R) (r' : R < 2 ^ 18) (first : ℤ) (b c : ℕ) (near : nat_abs first ≤ 2 ^ 42) (short : b ≤ 2 ^ 42) (few : c ≤ 2 ^ 27) where
  pub loop_exact : b * c + nat_abs first ≤ 2 ^ 49 → fitting (loop_end R first (pos b) c) ≡ some (first +ℤ pos (b * c))
  loop_exact h =
      let z = first +ℤ pos (b * c) in
      let f : SFits w64 z = omega (arith, ints) in
      ap fitting (E-exact R first b c r r' (omega arith) (omega arith) h) ∙ ap (λ (t : Bool). cond t (some z) none) (lt-ltb (mag z) (2 ^ 63) f.sfits)

  beyond : 2 ^ 49 < b * c + nat_abs first → earlier last_stop (first +ℤ pos (b * c)) ≡ nearer (clock_at R) s last_stop (fitting (loop_end R first (pos b) c))
  beyond h =
      let u = below_size first in
      let d = E-late R first b c r r' (omega arith) (omega arith) (le_trans near (lit≤ tt)) h in
      late (first +ℤ pos (b * c)) (above first + b * c) (below first + 0) (plus_minus first (pos (b * c)) (above first) (below first) (b * c) 0 (parts first) (add-zero (b * c))) (omega arith)
      ∙ sym (ap (λ (y : ℤ). nearer (clock_at R) s last_stop (fitting y)) d.1 ∙ go d.0 d.2 (ltb d.0 (2 ^ 63)))
    where
      go : (E : ℕ) → 2 ^ 48 + 2 ^ 47 < E → (t : Bool) → nearer (clock_at R) s last_stop (cond t (some (pos E)) none) ≡ last_stop
      go E g true = late (pos E) E 0 (add-zero E) g
      go E g false = refl

  pub loop_ends : earlier last_stop (first +ℤ pos (b * c)) ≡ nearer (clock_at R) s last_stop (fitting (loop_end R first (pos b) c))
  loop_ends = go (leb (b * c + nat_abs first) (2 ^ 49)) refl
    where
      go : (t : Bool) → leb (b * c + nat_abs first) (2 ^ 49) ≡ t → earlier last_stop (first +ℤ pos (b * c)) ≡ nearer (clock_at R) s last_stop (fitting (loop_end R first (pos b) c))
      go true e = ap (λ (o : Option ℤ). nearer (clock_at R) s last_stop o) (sym (loop_exact (leb-true (b * c + nat_abs first) (2 ^ 49) e)))
      go false e = beyond (leb-false (b * c + nat_abs first) (2 ^ 49) e)
