-- Which bits are read as a NaN, for both widths.
-- The idea: without the sign's bit a NaN's bits are above the infinity's. Assumes nothing.
use mathlib.Core.Path.{◌≡◌, refl, sym, ◌∙◌}
use mathlib.Core.Bool.{true, false≢true}
use Prim.Native.Nat.{ℕ, ◌*◌, ◌%◌, ◌<◌}
use lib.Ieee.{Float, nan, inf, fin, Format, ones, hid, top, is_nan, of_bits}
use lib.Ieee.Bits.{nan_bits_above, nan_bits_is}
use borrow.Author.Tests.{lt-ltb}

pub is_nan_lem : (x : Float) → is_nan x ≡ true → nan ≡ x
unfolding is_nan
is_nan_lem nan h = refl
is_nan_lem (inf s) h = absurd (false≢true h)
is_nan_lem (fin s m e) h = absurd (false≢true h)

pub reads_nan : (f : Format) (n : ℕ) → ones f * hid f < n % top f → nan ≡ of_bits f n
reads_nan f n h = is_nan_lem (of_bits f n) (sym (nan_bits_is f n) ∙ nan_bits_above f n ∙ lt-ltb _ _ h)
