-- A sum with a finite value is a NaN only where the other is one.
-- The idea: rounding makes a finite value or an infinity. Assumes nothing.
use Prim.Native.Nat.{ℕ, zero, suc, ◌+◌, ◌-◌, ◌*◌, ◌^◌}
use mathlib.Core.Bool.{Bool, true, false, cond, not, ◌&&◌, beq}
use lib.Dec.{T, ltb}
use lib.Ieee.{Float, nan, inf, fin, Format, prec, emax, low, up, down, is_nan, odd, units, round, sum, add}
use Rattle.laws.proofs.Bounds.{AtMost}

abbrev pub Number : Float → Type 0
Number x = T (not (is_nan x))

odd_number : (d : ℕ) (s : Bool) (q k l : ℕ) → Number (odd d s q k l)
unfolding odd is_nan
odd_number d s zero k l = tt
odd_number d s (suc q) k l = tt

units_number : (f : Format) (s : Bool) (q k : ℕ) → Number (units f s q k)
unfolding units is_nan
units_number f s q k = either (ltb (q * 2 ^ k) (2 ^ (low f + suc (emax f))))
  where
    either : (t : Bool) → Number (cond t (odd (suc (prec f)) s q k (low f)) (inf s))
    either true = odd_number (suc (prec f)) s q k (low f)
    either false = tt

round_number : (f : Format) (s : Bool) (a c : ℕ) → Number (round f s a c)
unfolding round
round_number f s a c = units_number f s _ _

sum_number : (f : Format) (s : Bool) (a : ℕ) (t : Bool) (b c : ℕ) → Number (sum f s a t b c)
unfolding sum
sum_number f s a t b c = go (beq s t) (ltb a b)
  where
    go : (u v : Bool) → Number (cond u (round f s (a + b) c) (cond v (round f t (b - a) c) (round f (s && ltb b a) (a - b) c)))
    go true v = round_number f s (a + b) c
    go false true = round_number f t (b - a) c
    go false false = round_number f (s && ltb b a) (a - b) c

pub add_number : (f : Format) (B : ℕ) (x y : Float) → Number x → AtMost B y → Number (add f x y)
unfolding add is_nan
add_number f B nan y h k = h
add_number f B (inf s) nan h k = absurd k
add_number f B (inf s) (inf t) h k = absurd k
add_number f B (inf s) (fin t n d) h k = tt
add_number f B (fin s m e) nan h k = absurd k
add_number f B (fin s m e) (inf t) h k = absurd k
add_number f B (fin s m e) (fin t n d) h k = sum_number f s (m * up e * down d) t (n * up d * down e) (down e * down d)
