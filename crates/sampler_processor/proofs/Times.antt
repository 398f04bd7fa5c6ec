-- Sums and differences of times that fit are answered, not refused.
-- The idea: the refusal's test is the range of an i64. Assumes nothing.
use mathlib.Core.Path.{◌≡◌, sym, ap, subst}
use mathlib.Core.Bool.{Bool, cond}
use mathlib.Core.Option.{none, some}
use Prim.Native.Nat.{ℕ, ◌+◌, ◌*◌, ◌^◌, ◌≤◌, ◌<◌, zero-le}
use native.Mathlib.Nat.{le_trans}
use native.Mathlib.Omega.{arith}
use lib.Dec.{T, leb, le→leb}
use lib.IntN.{ℤ, pos, nat_abs, ◌+ℤ◌, ◌-ℤ◌}
use lib.Signed.{mag}
use borrow.Author.Tests.{lt-ltb}
use lib.Ieee.Bits.{is_true}
use mir.Facts.{yes_and}
use mir.Syntax.{w64}
use mir.Val.{SFits}
use Rattle.laws.proofs.Minus.{nat_minus, fits64}
use Rattle.timestamp.specs.Time.{time_of}
use Rattle.timestamp.specs.Answer.{taken, made, plus, minus}
use Rattle.timestamp.proofs.Time.{T-near}
use Rattle.timestamp.proofs.Frames.{short}
use Rattle.laws.specs.Rules.{within}
use Rattle.sampler_event.proofs.UpTo.{UpTo, within_up}
use lib.Ieee.Nearest.{closest}

pub sum_taken : (a b : ℤ) → SFits w64 (a +ℤ b) → plus a b ≡ taken (a +ℤ b)
sum_taken a b F = ap (λ (t : Bool). made (cond t (some (a +ℤ b)) none)) (lt-ltb (mag (a +ℤ b)) (2 ^ 63) F.sfits)

pub difference_taken : (a b : ℤ) → SFits w64 (a -ℤ b) → minus a b ≡ taken (a -ℤ b)
difference_taken a b F = ap (λ (t : Bool). made (cond t (some (a -ℤ b)) none)) (lt-ltb (mag (a -ℤ b)) (2 ^ 63) F.sfits)

pub up_to_lem : (m : ℕ) (z : ℤ) → T (within (pos 0) (pos m) z) → UpTo m z
up_to_lem m z t = within_up m z (is_true (within (pos 0) (pos m) z) t)

-- a time of a block, n frames later
pub later_fits : (R n : ℕ) (t : ℤ) → 8000 ≤ R → R ≤ 96000 → n ≤ 4096 → UpTo (2 ^ 49) t → SFits w64 (t +ℤ time_of R n)
later_fits R n t lo hi h u =
    let a = T-near R n (omega arith) (omega arith) (omega arith) in
    let q = closest (n * 2 ^ 32) R in
    let s = short R n q (omega arith) (omega arith) a.1 in
    subst (λ (z : ℤ). SFits w64 (z +ℤ time_of R n)) (sym u.is)
    (subst (λ (z : ℤ). SFits w64 (pos (nat_abs t) +ℤ z)) (sym a.0) (record { sfits = under (nat_abs t) q u.most s.0 }))
  where
    under : (m q : ℕ) → m ≤ 2 ^ 49 → q < 2 ^ 35 → m + q < 2 ^ 63
    under m q h k = omega arith

pub apart_fits : (a b : ℤ) → UpTo (2 ^ 49) a → UpTo (2 ^ 49) b → SFits w64 (a -ℤ b)
apart_fits a b u v =
    subst (λ (z : ℤ). SFits w64 (z -ℤ b)) (sym u.is)
    (subst (λ (z : ℤ). SFits w64 (pos (nat_abs a) -ℤ z)) (sym v.is)
    (fits64 (pos (nat_abs a) -ℤ pos (nat_abs b)) (nat_abs a) (nat_abs b) (nat_minus (nat_abs a) (nat_abs b)) (near (nat_abs a) (nat_abs b) u.most) (near' (nat_abs a) (nat_abs b) v.most)))
  where
    near : (m n : ℕ) → m ≤ 2 ^ 49 → m < n + 2 ^ 63
    near m n h = omega arith

    near' : (m n : ℕ) → n ≤ 2 ^ 49 → n ≤ m + 2 ^ 63
    near' m n h = omega arith

pub up_within : (m : ℕ) (z : ℤ) → UpTo m z → T (within (pos 0) (pos m) z)
up_within m z u =
    let n = nat_abs z in
    subst (λ (y : ℤ). T (within (pos 0) (pos m) y)) (sym u.is) (yes_and (leb 0 n) (leb n m) (le→leb 0 n zero-le) (le→leb n m u.most))

pub up_more : (m n : ℕ) (z : ℤ) → m ≤ n → UpTo m z → UpTo n z
up_more m n z h u = record { is = u.is; most = le_trans u.most h }
