-- `timestamp::nearest_whole` meets its contract.
-- The idea: below 2 ^ 52 the sum with 2 ^ 52 is the rounding (`near`); above, the value is whole (`large`). Assumes nothing.
use Rattle.std.proofs.Common.{◌≡◌, ℕ, ◌+◌, ◌-◌, ◌*◌, ◌^◌, ◌<◌, ◌≤◌, Bool, true, false, not, T, pos, sym, refl, ap, ◌∙◌, subst, le_trans, le_of_eq, le-add_right, le_of_lt, zero-lt-suc, lt_of_mul-lt-mul_right, mul-one, arith}
use lib.Ieee.{Float, fin, binary64, fits, lt, add, of_bits, to_unsigned}
use lib.Ieee.Exact.{HasValue}
use lib.Ieee.Positive.{num, den, den_pos, value→cross}
use lib.Ieee.Nearest.{closest, closest_mono}
use Rattle.laws.proofs.Whole.{near, large, cast_of}
use Rattle.laws.proofs.Tests.{lt_pow, nlt_pow, minus_one_lt}
use Rattle.timestamp.proofs.nearest_whole.Goals as goal
use Rattle.timestamp.proofs.nearest_whole.Lts as lts
use Rattle.timestamp.proofs.nearest_whole.Reads as reads
use Rattle.timestamp.proofs.nearest_whole.Tie as tie

abbrev Start : Type 0
Start = lts.Start tie.the-claims reads.Pre reads.Post tie.handed_clauses

two_to_52 : of_bits binary64 0x4330_0000_0000_0000 ≡ fin false 1 (pos 52)
unfolding of_bits
two_to_52 = refl

abbrev z : Start → Float
z c = c.args.z

held : (c : Start) → T (fits binary64 (z c))
held c = subst T (sym c.well_formed.0.1) tt

abbrev q : Start → ℕ
q c = closest (num (z c)) (den (z c))

-- at most n / d, where z is
closest_le : (x : Float) (n : ℕ) → num x ≤ n * den x → closest (num x) (den x) ≤ closest n 1
closest_le x n h = closest_mono (num x) (den x) n 1 (den_pos x) (zero-lt-suc 0) (le_trans (le_of_eq (mul-one (num x))) h)

-- below 2 ^ 52
module _ (c : goal.Then-z) where
  low : num (z c.before) < 2 ^ 52 * den (z c.before)
  low = lt_pow (z c.before) 52 c.requires.above_zero (subst (λ (k : Float). T (lt (z c.before) k)) two_to_52 (subst T (sym c.if-z.true) tt))

  few : 2 ^ 52 + q c.before < 2 ^ 64
  few = go (q c.before) (closest_le (z c.before) (2 ^ 52) (le_of_lt low))
    where
      go : (k : ℕ) → k ≤ 4503599627370496 → 4503599627370496 + k < 18446744073709551616
      go k h = omega arith

  cast : T (lt (fin true 1 (pos 0)) (add binary64 (z c.before) (of_bits binary64 0x4330_0000_0000_0000))) × T (lt (add binary64 (z c.before) (of_bits binary64 0x4330_0000_0000_0000)) (fin false 1 (pos 64))) × (to_unsigned 64 (add binary64 (z c.before) (of_bits binary64 0x4330_0000_0000_0000)) ≡ 2 ^ 52 + q c.before)
  cast = subst (λ (k : Float). T (lt (fin true 1 (pos 0)) (add binary64 (z c.before) k)) × T (lt (add binary64 (z c.before) k) (fin false 1 (pos 64))) × (to_unsigned 64 (add binary64 (z c.before) k) ≡ 2 ^ 52 + q c.before)) (sym two_to_52)
      (cast_of (add binary64 (z c.before) (fin false 1 (pos 52))) (2 ^ 52 + q c.before) (near (z c.before) c.requires.above_zero low) few)

-- from 2 ^ 52 on
high : (c : goal.Else-z) → to_unsigned 64 (z c.before) ≡ q c.before
high c =
    let x = z c.before in
    let p = c.requires.above_zero in
    let up : 2 ^ 52 * den x ≤ num x = nlt_pow x 52 p (subst (λ (k : Float). T (not (lt x k))) two_to_52 (subst (λ (b : Bool). T (not b)) (sym c.if-z.false) tt)) in
    let v = large x (held c.before) p up in
    (cast_of x (q c.before) v (less x (q c.before) v (lt_pow x 64 p c.requires.below_limit))).2
  where
    less : (x : Float) (k : ℕ) → HasValue x false k 1 → num x < 2 ^ 64 * den x → k < 2 ^ 64
    less x k v h = lt_of_mul-lt-mul_right (den x) (subst (λ (n : ℕ). n < 2 ^ 64 * den x) (sym (mul-one (num x)) ∙ value→cross x k 1 v) h)

pub truncating_f64_to_u64-requires : goal.truncating_f64_to_u64-requires
truncating_f64_to_u64-requires c = record { lower_bound = (cast c).0; upper_bound = (cast c).1 }

is : (c : goal.After-truncating_f64_to_u64) → c.truncating_f64_to_u64.result ≡ 2 ^ 52 + q c.before.before
is c = c.truncating_f64_to_u64.ensures ∙ (cast c.before).2

pub overflow_sub-result : goal.overflow_sub-result
overflow_sub-result c = subst (λ (k : ℕ). 2 ^ 52 ≤ k) (sym (is c)) (le-add_right (2 ^ 52) (q c.before.before))

pub truncating_f64_to_u64-requires-else-z : goal.truncating_f64_to_u64-requires-else-z
truncating_f64_to_u64-requires-else-z c =
    record {
      lower_bound = minus_one_lt (z c.before) c.requires.above_zero;
      upper_bound = c.requires.below_limit;
    }

pub returns-then-z : goal.returns-then-z
returns-then-z c = ap (λ (k : ℕ). k - 2 ^ 52) (is c) ∙ go (q c.before.before)
  where
    go : (k : ℕ) → 4503599627370496 + k - 4503599627370496 ≡ k
    go k = omega arith

pub returns-else-z : goal.returns-else-z
returns-else-z c = c.truncating_f64_to_u64-else-z.ensures ∙ high c.before
