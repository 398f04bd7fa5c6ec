-- Exactly when a pass with a loop catches up, in whole numbers: when the end is less than half a frame ahead, which is below the ceiling of 2^31 / R units.
-- The idea: E is exact where the loops so far are within 2^49 units, and later than any block beyond. Assumes nothing.
use Prim.Native.Nat.{ℕ, suc, ◌+◌, ◌-◌, ◌*◌, ◌^◌, ◌≤◌, ◌<◌, min}
use native.Mathlib.Nat.{add-zero, le_trans, mul-le-mul_right, mul-le-mul_left, div-add-mod', mod-lt}
use native.Mathlib.Omega.{arith}
use mathlib.Core.Path.{◌≡◌, refl, sym, ap, ◌∙◌, subst}
use mathlib.Core.Bool.{Bool, true, false, cond}
use mathlib.Core.Option.{Option, none, some}
use borrow.Author.Tests.{leb-true, leb-false}
use lib.Dec.{leb, ltb, lit≤}
use lib.IntN.{ℤ, pos, nat_abs, ◌+ℤ◌, ◌-ℤ◌, +ℤ_comm, +ℤ-neg_ℤ_cancel}
use Rattle.laws.proofs.Minus.{Minus, shift, plus_minus, nat_minus, size_minus}
use Rattle.timestamp.specs.Time.{time_of, frame_near, loop_end}
use Rattle.timestamp.specs.Answer.{fitting}
use Rattle.timestamp.proofs.Frames.{S-T}
use Rattle.timestamp.proofs.Loop.{E-late}
use Rattle.timestamp.proofs.Interval.{interval_none, interval_some}
use Rattle.timestamp.proofs.Interval as I
use Rattle.sampler_player.specs.declared.Setup.{Setup}
use Rattle.sampler_player.specs.Clock.{clock_at}
use Rattle.sampler_player.specs.Pieces.{nearer}
use Rattle.sampler_player.specs.inner.Stroke.{half_frame}
use Rattle.sampler_player.proofs.Ends.{loop_exact}

module _ (R : ℕ) (lo : 8000 ≤ R) (hi : R ≤ 96000) where
  pub half_least : 2 ^ 31 ≤ half_frame R * R
  half_least =
      let e = div-add-mod' (2 ^ 31 + R - 1) R in
      let l = mod-lt (2 ^ 31 + R - 1) {m = R} (omega arith) in
      omega (arith, e, l)

  pub half_most : half_frame R * R < 2 ^ 31 + R
  half_most =
      let e = div-add-mod' (2 ^ 31 + R - 1) R in
      omega (arith, e)

  pub half_small : half_frame R ≤ 2 ^ 19
  half_small = go (half_frame R) half_most
    where
      go : (h : ℕ) → h * R < 2 ^ 31 + R → h ≤ 2 ^ 19
      go h l = let k : h * 8000 ≤ h * R = mul-le-mul_left h lo in omega arith

  -- ---- an end at A, a position at u
  under : (h u A : ℕ) → h * R < 2 ^ 31 + R → A < u + h → 2 * (A * R) < 2 * (u * R) + 2 ^ 32
  under h u A m l = let k : suc A * R ≤ (u + h) * R = mul-le-mul_right R l in omega arith

  over : (h u A : ℕ) → 2 ^ 31 ≤ h * R → u + h ≤ A → 2 * (u * R) + 2 ^ 32 ≤ 2 * (A * R)
  over h u A m l = let k : (u + h) * R ≤ A * R = mul-le-mul_right R l in omega arith

  module _ (P : ℤ) (l : ℕ) (some_left : 0 < l) (few_left : l ≤ 4096) where
    near : (E : ℤ) (u A B : ℕ) → u < 2 ^ 50 → Minus P u B → Minus E A B → A < u + half_frame R → I.interval R P E l ≡ 0
    near E u A B small p e h =
        interval_none R l P E u A B (omega arith) (omega arith) some_left (omega arith) small p e (under (half_frame R) u A half_most h)

    far : (E : ℤ) (u A B : ℕ) → u < 2 ^ 50 → Minus P u B → Minus E A B → u + half_frame R ≤ A → 0 < I.interval R P E l
    far E u A B small p e h =
        interval_some R l P E u A B (omega arith) (omega arith) some_left (omega arith) small p e (over (half_frame R) u A half_least h)

    -- no end at all leaves the whole segment
    back : (z : ℤ) → P +ℤ z -ℤ P ≡ z
    back z = ap (λ (x : ℤ). x -ℤ P) (+ℤ_comm P z) ∙ +ℤ-neg_ℤ_cancel z P

    idle : (n : ℕ) → n ≡ l → 0 < min n l
    idle n e = omega arith

    all : 0 < min (frame_near R (P +ℤ time_of R l -ℤ P)) l
    all = idle (frame_near R (P +ℤ time_of R l -ℤ P)) (ap (λ (z : ℤ). frame_near R z) (back (time_of R l)) ∙ S-T R l (omega arith) (omega arith) (omega arith))

-- ---- a loop from a to len + a, played from st, with c loops completed: the interval of l frames at position P
abbrev pub piece : Setup → ℤ → ℕ → ℕ → ℕ → ℕ → ℕ → ℕ
piece s P a st len c l =
    min (frame_near s.rate (nearer (clock_at s.rate) s (P +ℤ time_of s.rate l) (fitting (loop_end s.rate (pos (len + a) -ℤ pos st) (pos len) c)) -ℤ P)) l

-- P is w - v
module _ (s : Setup) (lo : 8000 ≤ s.rate) (hi : s.rate ≤ 96000) (P : ℤ) (w v a st len c l : ℕ) (some_left : 0 < l) (few_left : l ≤ 4096) (is : Minus P w v) (high : w ≤ 2 ^ 48 + 2 ^ 34 + v) (low : v ≤ 2 ^ 20) (begun : st ≤ 2 ^ 42)
    (early : len + a ≤ 2 ^ 42) (few : c ≤ 2 ^ 27) where
  size : nat_abs (pos (len + a) -ℤ pos st) ≤ 2 ^ 42
  size = size_minus (pos (len + a) -ℤ pos st) (len + a) st (2 ^ 42) early begun (nat_minus (len + a) st)

  sum_is : Minus (pos (len + a) -ℤ pos st +ℤ pos (len * c)) (len + a + len * c + v) (st + v)
  sum_is =
      shift (pos (len + a) -ℤ pos st +ℤ pos (len * c)) (len + a + len * c) (st + 0) (len + a + len * c + v) (st + v) (omega arith)
      (plus_minus (pos (len + a) -ℤ pos st) (pos (len * c)) (len + a) st (len * c) 0 (nat_minus (len + a) st) (add-zero (len * c)))

  here_is : Minus P (w + st) (st + v)
  here_is = shift P w v (w + st) (st + v) (omega arith) is

  -- where E is exact
  exact : len * c + nat_abs (pos (len + a) -ℤ pos st) ≤ 2 ^ 49 → fitting (loop_end s.rate (pos (len + a) -ℤ pos st) (pos len) c) ≡ some (pos (len + a) -ℤ pos st +ℤ pos (len * c))
  exact h = loop_exact s.rate s (omega arith) (omega arith) (pos (len + a) -ℤ pos st) len c size (omega arith) few h

  pub catches : len * c + (len + a) + v < w + st + half_frame s.rate → piece s P a st len c l ≡ 0
  catches h =
      let q = half_small s.rate lo hi in
      let k : len * c + nat_abs (pos (len + a) -ℤ pos st) ≤ 2 ^ 49 = omega (arith, size) in
      ap (λ (o : Option ℤ). min (frame_near s.rate (nearer (clock_at s.rate) s (P +ℤ time_of s.rate l) o -ℤ P)) l) (exact k)
      ∙ near s.rate lo hi P l some_left few_left (pos (len + a) -ℤ pos st +ℤ pos (len * c)) (w + st) (len + a + len * c + v) (st + v) (omega arith) here_is sum_is (omega arith)

  sounds_exact : len * c + nat_abs (pos (len + a) -ℤ pos st) ≤ 2 ^ 49 → w + st + half_frame s.rate ≤ len * c + (len + a) + v → 0 < piece s P a st len c l
  sounds_exact k h =
      subst (λ (o : Option ℤ). 0 < min (frame_near s.rate (nearer (clock_at s.rate) s (P +ℤ time_of s.rate l) o -ℤ P)) l) (sym (exact k))
      (far s.rate lo hi P l some_left few_left (pos (len + a) -ℤ pos st +ℤ pos (len * c)) (w + st) (len + a + len * c + v) (st + v) (omega arith) here_is sum_is (omega arith))

  -- and where it is later than any block, or doesn't fit
  sounds_late : 2 ^ 49 < len * c + nat_abs (pos (len + a) -ℤ pos st) → 0 < piece s P a st len c l
  sounds_late k =
      let q = half_small s.rate lo hi in
      let d = E-late s.rate (pos (len + a) -ℤ pos st) len c (omega arith) (omega arith) (omega arith) (omega arith) (le_trans size (lit≤ tt)) k in
      subst (λ (z : ℤ). 0 < min (frame_near s.rate (nearer (clock_at s.rate) s (P +ℤ time_of s.rate l) (fitting z) -ℤ P)) l) (sym d.1)
      (go d.0 d.2 (ltb d.0 (2 ^ 63)))
    where
      go : (E : ℕ) → 2 ^ 48 + 2 ^ 47 < E → (t : Bool)
          → 0 < min (frame_near s.rate (nearer (clock_at s.rate) s (P +ℤ time_of s.rate l) (cond t (some (pos E)) none) -ℤ P)) l
      go E g true =
          let q = half_small s.rate lo hi in
          far s.rate lo hi P l some_left few_left (pos E) w (E + v) v (omega arith) is refl (omega arith)
      go E g false = all s.rate lo hi P l some_left few_left

  pub sounds : w + st + half_frame s.rate ≤ len * c + (len + a) + v → 0 < piece s P a st len c l
  sounds h = go (leb (len * c + nat_abs (pos (len + a) -ℤ pos st)) (2 ^ 49)) refl
    where
      go : (t : Bool) → leb (len * c + nat_abs (pos (len + a) -ℤ pos st)) (2 ^ 49) ≡ t → 0 < piece s P a st len c l
      go true e = sounds_exact (leb-true (len * c + nat_abs (pos (len + a) -ℤ pos st)) (2 ^ 49) e) h
      go false e = sounds_late (leb-false (len * c + nat_abs (pos (len + a) -ℤ pos st)) (2 ^ 49) e)
