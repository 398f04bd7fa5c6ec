-- A value that passes the tests of a range is finite and at most the range's end in magnitude.
-- The idea: a test on floats computes to one on the fractions' cross products. Assumes nothing.
use mathlib.Core.Path.{◌≡◌, sym, subst₂}
use mathlib.Core.Bool.{Bool, true, false, ◌&&◌, ◌||◌}
use Prim.Native.Nat.{ℕ, ◌*◌, ◌^◌, ◌≤◌, ◌<◌}
use native.Mathlib.Nat.{le_of_eq, mul-one, one-mul}
use native.Mathlib.Omega.{arith}
use lib.IntN.{pos}
use lib.Dec.{T, ltb, eqb, ltb→lt, eqb→eq}
use lib.Ieee.{Float, nan, inf, fin, up, down, le}
use lib.Ieee.Fits.{and_l}
use Rattle.laws.proofs.Bounds.{AtMost}

under : (a b : ℕ) (t : Bool) → T (ltb a b || (eqb a b && t)) → a ≤ b
under a b t h = go (ltb a b) (eqb a b) (ltb→lt a b) (eqb→eq a b) h
  where
    weak : (a b : ℕ) → a < b → a ≤ b
    weak a b l = omega arith

    go : (u v : Bool) → (T u → a < b) → (T v → a ≡ b) → T (u || (v && t)) → a ≤ b
    go true v p q h = weak a b (p tt)
    go false true p q h = le_of_eq (q tt)
    go false false p q h = absurd h

above : (a b : ℕ) (t : Bool) → T (ltb b a || (eqb a b && t)) → b ≤ a
above a b t h = go (ltb b a) (eqb a b) (ltb→lt b a) (eqb→eq a b) h
  where
    weak : (a b : ℕ) → b < a → b ≤ a
    weak a b l = omega arith

    go : (u v : Bool) → (T u → b < a) → (T v → a ≡ b) → T (u || (v && t)) → b ≤ a
    go true v p q h = weak a b (p tt)
    go false true p q h = le_of_eq (sym (q tt))
    go false false p q h = absurd h

tidy : (m u d w : ℕ) → m * u * 1 ≤ 1 * w * d → m * u ≤ w * d
tidy m u d w h = subst₂ (λ (x y : ℕ). x ≤ y * d) (mul-one (m * u)) (one-mul w) h

-- from -2 ^ w to 2 ^ w
pub tests_most : (x : Float) (w : ℕ) → T (le (fin true 1 (pos w)) x) → T (le x (fin false 1 (pos w))) → AtMost (2 ^ w) x
unfolding le
tests_most nan w h k = k
tests_most (inf true) w h k = h
tests_most (inf false) w h k = k
tests_most (fin true m e) w h k = tidy m (up e) (down e) (2 ^ w) (above (1 * 2 ^ w * down e) (m * up e * 1) true h)
tests_most (fin false m e) w h k = tidy m (up e) (down e) (2 ^ w) (under (m * up e * 1) (1 * 2 ^ w * down e) true k)

-- from 0 to 1
pub unit_most : (x : Float) → T (le (fin false 0 (pos 0)) x) → T (le x (fin false 1 (pos 0))) → AtMost 1 x
unfolding le
unit_most nan h k = k
unit_most (inf true) h k = h
unit_most (inf false) h k = k
unit_most (fin true m e) h k = none (m * up e) (down e) (eqb→eq (0 * 1 * down e) (m * up e * 1) (and_l (eqb (0 * 1 * down e) (m * up e * 1)) (eqb (0 * 1 * down e) 0) h))
  where
    none : (x d : ℕ) → 0 * 1 * d ≡ x * 1 → x ≤ 1 * d
    none x d h = omega arith
unit_most (fin false m e) h k = tidy m (up e) (down e) 1 (under (m * up e * 1) (1 * 1 * down e) true k)
