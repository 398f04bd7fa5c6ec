-- The frames of a piece at each of the two ends: the recording's and a loop's. k pieces were rendered and c loops completed, and (k + 2c + 4)·R is below 2^32.
-- The idea: the errors of position, start and loop points added up are within the budget, and `piece_whole` does the rest. Assumes nothing.
use mathlib.Core.Path.{◌≡◌, sym, ap, ◌∙◌, subst}
use Prim.Native.Nat.{ℕ, suc, ◌+◌, ◌-◌, ◌*◌, ◌^◌, ◌≤◌, ◌<◌, min}
use native.Mathlib.Nat.{le_trans, lt_of_lt_of_le, lt_of_le_of_lt, add-zero, add_comm, mul-le-mul_right, le-mul_of_pos_right, min-eq_left}
use native.Mathlib.Omega.{arith}
use mathlib.Core.Bool.{Bool, true, false, not}
use mathlib.Core.Option.{Option}
use lib.Dec.{T, leb, leb→le, nleb→lt, lit≤}
use lib.IntN.{ℤ, pos, ◌+ℤ◌, ◌-ℤ◌, nat_abs}
use lib.Ieee.Nearest.{closest}
use Rattle.laws.proofs.Near.{Near}
use Rattle.laws.proofs.Minus.{Minus, plus_minus, nat_minus, size_minus}
use Rattle.timestamp.specs.Time.{time_of, loop_end}
use Rattle.timestamp.specs.Answer.{fitting}
use Rattle.timestamp.proofs.Time.{T-near, T-wide, Wide}
use Rattle.timestamp.proofs.Frames.{short}
use Rattle.timestamp.proofs.Drift.{Drift}
use Rattle.timestamp.proofs.Loop.{E-exact, E-late}
use Rattle.timestamp.proofs.Interval.{interval}
use Rattle.whole_frames.specs.Whole.{Budget}
use Rattle.whole_frames.proofs.Piece.{Off, all_fits, piece_whole}
use Rattle.whole_frames.proofs.Late.{to, late, fits}

-- ---- the recording's end: T of its frames, which may be rounded twice
wide_off : (R f t : ℕ) → f ≤ 2 ^ 20 * R → Wide R f t → Off (2 * R) R f t
wide_off R f t h w = omega arith

pub record_piece : (R k c l P n f : ℕ) → 0 < R → R < 2 ^ 18 → l < 8 * R → Budget R k c → P < 2 ^ 50 → f ≤ 2 ^ 20 * R → Drift R k n P → interval R (pos P) (time_of R f) l ≡ min l (f - n)
record_piece R k c l P n f r r' h s small hf d =
    let e = T-wide R f r (lt_of_lt_of_le r' (lit≤ tt)) (under R f r' hf) in
    ap (λ (z : ℤ). interval R (pos P) z l) e.1
    ∙ piece_whole R (k * R) (2 * R) l (pos P) (pos e.0) P e.0 0 n f r r' h (errors R k c s) small (add-zero P) (add-zero e.0) d (wide_off R f e.0 hf e.2)
  where
    under : (R f : ℕ) → R < 2 ^ 18 → f ≤ 2 ^ 20 * R → f < 2 ^ 53
    under R f r h = omega arith

    errors : (R k c : ℕ) → Budget R k c → k * R + 2 * R < 2 ^ 32
    errors R k c h = omega arith

-- ---- a loop's end. The start s, the loop's start a and its end f + a are frames, and `ts`, `ta`, `m + ta` the nearest times
loop_off : (R c a f ta m : ℕ) → Near ta (a * 2 ^ 32) R → Near (m + ta) ((f + a) * 2 ^ 32) R → Off ((2 * c + 1) * R) R (f + a + f * c) (m + ta + m * c)
loop_off R c a f ta m x y =
    let d : Off (2 * R) R f m = once R a f ta m x y in
    let u = mul-le-mul_right c d.0 in
    let v = mul-le-mul_right c d.1 in
    omega (arith, u, v)
  where
    once : (R a f ta m : ℕ) → Near ta (a * 2 ^ 32) R → Near (m + ta) ((f + a) * 2 ^ 32) R → Off (2 * R) R f m
    once R a f ta m x y = omega arith

start_off : (R k n P s ts : ℕ) → Drift R k n P → Near ts (s * 2 ^ 32) R → Off (suc k * R) R (s + n) (ts + P)
start_off R k n P s ts d x = omega arith

errors : (R k c : ℕ) → Budget R k c → suc k * R + (2 * c + 1) * R < 2 ^ 32
errors R k c h = omega arith

few : (R k c : ℕ) → 0 < R → Budget R k c → c < 2 ^ 53
few R k c r h = lt_of_le_of_lt (le-mul_of_pos_right c r) (part R k c h)
  where
    part : (R k c : ℕ) → Budget R k c → c * R < 2 ^ 53
    part R k c h = omega arith

-- `m` and `f` are the loop's length, in units and in frames
module _ (R k c l P n s a f ts ta m : ℕ) (r : 0 < R) (r' : R < 2 ^ 18) (h : l < 8 * R) (w : Budget R k c) (hP : P ≤ 2 ^ 48 + 2 ^ 46) (hs : ts ≤ 2 ^ 42) (ht : m + ta ≤ 2 ^ 42)
    (d : Drift R k n P) (ns : Near ts (s * 2 ^ 32) R) (na : Near ta (a * 2 ^ 32) R) (nb : Near (m + ta) ((f + a) * 2 ^ 32) R) where
  m_lt : m < 2 ^ 53
  m_lt = omega arith

  -- an end that is exact: E = m + ta − ts + m·c
  exact : (E : ℤ) → Minus E (m + ta + m * c) ts → m * c ≤ 2 ^ 49 → to R l (pos P) (fitting E) ≡ min l (f + a + f * c - (s + n))
  exact E e q =
      ap (λ (o : Option ℤ). to R l (pos P) o) (fits E (m + ta + m * c) ts e (omega arith) (omega arith))
      ∙ piece_whole R (suc k * R) ((2 * c + 1) * R) l (pos P) E (ts + P) (m + ta + m * c) ts (s + n) (f + a + f * c) r r' h (errors R k c w) (omega arith) (add_comm P ts) e
      (start_off R k n P s ts d ns) (loop_off R c a f ta m na nb)

  -- one that is later than all that is left
  beyond : (E : ℕ) → 2 ^ 48 + 2 ^ 47 < E → ts + P + 2 ^ 35 ≤ m + ta + m * c → to R l (pos P) (fitting (pos E)) ≡ min l (f + a + f * c - (s + n))
  beyond E g q =
      let t = closest (l * 2 ^ 32) R in
      let near = (T-near R l r r' h).1 in
      late R l P E r r' h (omega arith) (omega arith)
      ∙ sym (min-eq_left (all_fits R (suc k * R) ((2 * c + 1) * R) (s + n) (ts + P) (f + a + f * c) (m + ta + m * c) r' (errors R k c w) (start_off R k n P s ts d ns) (loop_off R c a f ta m na nb) l t near
      (before (ts + P) t (m + ta + m * c) (short R l t r' h near).0 q)))
    where
      before : (u t A : ℕ) → t < 2 ^ 35 → u + 2 ^ 35 ≤ A → u + t ≤ A
      before u t A h k = omega arith

  from_first : (first : ℤ) → Minus first (m + ta) ts → to R l (pos P) (fitting (loop_end R first (pos m) c)) ≡ min l (f + a + f * c - (s + n))
  from_first first e = by (leb (m * c + nat_abs first) (2 ^ 49)) (leb→le (m * c + nat_abs first) (2 ^ 49)) (nleb→lt (m * c + nat_abs first) (2 ^ 49))
    where
      size : nat_abs first ≤ 2 ^ 42
      size = size_minus first (m + ta) ts (2 ^ 42) ht hs e

      end : Minus (first +ℤ pos (m * c)) (m + ta + m * c) ts
      end = subst (λ (z : ℕ). Minus (first +ℤ pos (m * c)) (m + ta + m * c) z) (add-zero ts) (plus_minus first (pos (m * c)) (m + ta) ts (m * c) 0 e (add-zero (m * c)))

      later : (x y : ℕ) → y ≤ 2 ^ 42 → 2 ^ 49 < x + y → ts + P + 2 ^ 35 ≤ m + ta + x
      later x y p q = omega arith

      part : (x y : ℕ) → x + y ≤ 2 ^ 49 → x ≤ 2 ^ 49
      part x y p = omega arith

      by : (x : Bool) → (T x → m * c + nat_abs first ≤ 2 ^ 49) → (T (not x) → 2 ^ 49 < m * c + nat_abs first)
          → to R l (pos P) (fitting (loop_end R first (pos m) c)) ≡ min l (f + a + f * c - (s + n))
      by true p q =
          ap (λ (z : ℤ). to R l (pos P) (fitting z)) (E-exact R first m c r r' m_lt (few R k c r w) (p tt)) ∙ exact (first +ℤ pos (m * c)) end (part (m * c) (nat_abs first) (p tt))
      by false p q =
          let E = E-late R first m c r r' m_lt (few R k c r w) (le_trans size (lit≤ tt)) (q tt) in
          ap (λ (z : ℤ). to R l (pos P) (fitting z)) E.1 ∙ beyond E.0 E.2 (later (m * c) (nat_abs first) size (q tt))

  pub loop_piece : to R l (pos P) (fitting (loop_end R (pos (m + ta) -ℤ pos ts) (pos m) c)) ≡ min l (f + a + f * c - (s + n))
  loop_piece = from_first (pos (m + ta) -ℤ pos ts) (nat_minus (m + ta) ts)
