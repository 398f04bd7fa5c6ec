-- The bit patterns below an infinity's, which are those of the finite values from 0 on: the value of each, as a whole number of the format's smallest values.
-- The idea: the digits t of an exponent's field x stand for t such units, or for (hid + t) * 2 ^ (x - 1). Assumes nothing.
use mathlib.Core.Path.{◌≡◌, refl, sym, ◌∙◌, subst}
use mathlib.Core.Bool.{Bool, false, cond}
use Prim.Native.Nat.{ℕ, zero, suc, ◌+◌, ◌-◌, ◌*◌, ◌/◌, ◌%◌, ◌^◌, ◌<◌}
use native.Mathlib.Nat.{le_trans, le_of_eq, le-suc, lt_of_lt_of_le, mul-one, mul_comm, mul-le-mul_left, mod-eq_of_lt, div-lt_iff_lt-mul}
use native.Mathlib.Omega.{arith}
use lib.Dec.{leb, eqb, eqb→eq, not_T}
use lib.Arith.{lt→nleb}
use lib.Pow.{pow_pos}
use lib.Ieee.{Float, nan, inf, fin, Format, prec, low, odd, hid, ones, top, is_nan, nan_bits, of_fields, of_bits}
use lib.Ieee.Bits.{is_false, nan_bits_is}
use lib.Ieee.Exact.{HasValue, odd_sign}

-- the pattern of an infinity
abbrev pub infinite : Format → ℕ
infinite f = ones f * hid f

-- the units that an exponent's field and the digits stand for
abbrev pub units_at : Format → ℕ → ℕ → ℕ
units_at f zero t = t
units_at f (suc x) t = (hid f + t) * 2 ^ x

unfoldable pub in_units : Format → ℕ → ℕ
in_units f b = units_at f (b / hid f) (b % hid f)

pub hid_pos : (f : Format) → 0 < hid f
hid_pos f = pow_pos (prec f - 1)

-- ---- the value

fields_value : (f : Format) (x t : ℕ) → x < ones f → HasValue (of_fields f false x t) false (units_at f x t) (2 ^ low f)
unfolding of_fields
fields_value f zero t h = subst (λ (n : ℕ). HasValue (odd (prec f) false t 0 (low f)) false n (2 ^ low f)) (mul-one t) (odd_sign (prec f) false t 0 (low f))
fields_value f (suc x) t h =
    subst (λ (b : Bool). HasValue (cond b (cond (eqb t 0) (inf false) nan) (odd (prec f) false (hid f + t) x (low f))) false ((hid f + t) * 2 ^ x) (2 ^ low f))
    (sym (is_false (eqb (suc x) (ones f)) (not_T (eqb (suc x) (ones f)) (λ u. differ (eqb→eq (suc x) (ones f) u) h))))
    (odd_sign (prec f) false (hid f + t) x (low f))
  where
    differ : {m n : ℕ} → m ≡ n → m < n → ⊥
    differ e l = omega arith

under_top : (f : Format) {b : ℕ} → b < infinite f → b < top f
under_top f h = lt_of_lt_of_le h (le_trans (le_of_eq (mul_comm (ones f) (hid f))) (mul-le-mul_left (hid f) (le-suc (ones f))))

pub value : (f : Format) (b : ℕ) → b < infinite f → HasValue (of_bits f b) false (in_units f b) (2 ^ low f)
unfolding of_bits in_units
value f b h =
    let l : b < top f = under_top f h in
    subst (λ (s : Bool). HasValue (of_fields f s (b % top f / hid f) (b % hid f)) false (in_units f b) (2 ^ low f)) (sym (is_false (leb (top f) b) (lt→nleb (top f) b l)))
    (subst (λ (n : ℕ). HasValue (of_fields f false (n / hid f) (b % hid f)) false (in_units f b) (2 ^ low f)) (sym (mod-eq_of_lt l))
    (fields_value f (b / hid f) (b % hid f) ((div-lt_iff_lt-mul (hid_pos f)).1 h)))

valued : (x : Float) (s : Bool) (a c : ℕ) → HasValue x s a c → is_nan x ≡ false
unfolding is_nan
valued nan s a c v = absurd v
valued (inf t) s a c v = absurd v
valued (fin t m e) s a c v = refl

pub no_nan : (f : Format) (b : ℕ) → b < infinite f → nan_bits f b ≡ false
no_nan f b h = nan_bits_is f b ∙ valued (of_bits f b) false (in_units f b) (2 ^ low f) (value f b h)
