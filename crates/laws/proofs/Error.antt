-- Errors of several roundings to binary64, in whole numbers. `Rounded y x`: y is x after one rounding in the normal range. `Off j x z w`: x is within j / 2 ^ 56 of w of z,
-- so one rounding of something that is w at most adds 8, and 9 pays for the rest. Nothing here is about floats but the first lemmas. Assumes nothing.
use mathlib.Core.Path.{◌≡◌, refl, sym, ap, ap₂, ◌∙◌, subst, subst₂}
use mathlib.Core.Logic.{◌⊎◌, inl, inr}
use Prim.Native.Nat.{ℕ, zero, suc, ◌+◌, ◌-◌, ◌*◌, ◌^◌, ◌≤◌, ◌<◌}
use native.Mathlib.Nat.{le_trans, le_of_eq, le_of_suc-le-suc, zero-lt-suc, zero-mul, one-mul, add-mul, mul_right_comm, mul_assoc, mul-le-mul_left, mul-le-mul_right, le_of_mul-le-mul_right, lt_of_mul-lt-mul_right, eq-zero-or-pos, mul-pos}
use native.Mathlib.Omega.{arith}
use lib.Pow.{pow_pos, pow-add}
use lib.Ieee.{Format, prec, low, binary64}
use lib.Ieee.Scale.{grid}
use Rattle.laws.proofs.Round.{Multiple, Normal, Relative, relative, grid_zero}
use Rattle.laws.proofs.Operations.{sub_mul}

-- ---- one rounding: 2 ^ 53 * |y - x| ≤ x
abbrev pub Rounded : ℕ → ℕ → Type 0
Rounded y x = (2 ^ 53 * y ≤ 2 ^ 53 * x + x) × (2 ^ 53 * x ≤ 2 ^ 53 * y + x)

scaled : (y x u : ℕ) → 2 ^ 53 * (y * u) ≤ 2 ^ 53 * (x * u) + x * u → (2 ^ 53 * y) * u ≤ (2 ^ 53 * x + x) * u
scaled y x u h = omega arith

scaled' : (y x u : ℕ) → 2 ^ 53 * (x * u) ≤ 2 ^ 53 * (y * u) + x * u → (2 ^ 53 * x) * u ≤ (2 ^ 53 * y + x) * u
scaled' y x u h = omega arith

-- a common factor falls away
pub unscale : (u y x Y X : ℕ) → 0 < u → Y ≡ y * u → X ≡ x * u → Rounded Y X → Rounded y x
unscale u y x Y X U e d h =
    let k : Rounded (y * u) (x * u) = subst₂ (λ (a b : ℕ). Rounded a b) e d h in
    (le_of_mul-le-mul_right (scaled y x u k.0) U, le_of_mul-le-mul_right (scaled' y x u k.1) U)

-- ---- multiples of one number: of such numbers only 0 is small
pub multiple_plus : (d x y : ℕ) → Multiple d x → Multiple d y → Multiple d (x + y)
multiple_plus d x y (m, e) (n, g) = (m + n, ap₂ (λ (a b : ℕ). a + b) e g ∙ sym (add-mul m n d))

pub multiple_minus : (d x y : ℕ) → Multiple d x → Multiple d y → Multiple d (x - y)
multiple_minus d x y (m, e) (n, g) = (m - n, ap₂ (λ (a b : ℕ). a - b) e g ∙ sym (sub_mul m n d))

pub multiple_times : (d x k : ℕ) → Multiple d x → Multiple d (x * k)
multiple_times d x k (m, e) = (m * k, ap (λ (a : ℕ). a * k) e ∙ mul_right_comm m d k)

pub zero_or_more : (d x : ℕ) → Multiple d x → (x ≡ 0) ⊎ (d ≤ x)
zero_or_more d x (zero, e) = inl (e ∙ zero-mul d)
zero_or_more d x (suc m, e) = inr (subst (λ (z : ℕ). d ≤ z) (sym e) (le_trans (le_of_eq (sym (one-mul d))) (mul-le-mul_right d (zero-lt-suc m))))

-- ---- `grid` over a power of two, and over 2 ^ low times r
-- zero or normal
pub relative_or_zero : (f : Format) (a c : ℕ) → 0 < c → (a ≡ 0) ⊎ Normal f a c → Relative f a c
relative_or_zero f a c C (inr n) = relative f a c C n
relative_or_zero f a c C (inl e) =
    subst (λ (x : ℕ). Relative f x c) (sym e) (zeros (2 ^ prec f) (grid f 0 c * c) (0 * 2 ^ low f) (grid_zero f c C) (zero-mul (2 ^ low f)))
  where
    zeros : (p g n : ℕ) → g ≡ 0 → n ≡ 0 → (p * g ≤ p * n + n) × (p * n ≤ p * g + n)
    zeros p g n e d = subst₂ (λ (x y : ℕ). (p * x ≤ p * y + y) × (p * y ≤ p * x + y)) (sym e) (sym d) (omega arith)

-- a / 2 ^ F, for a F up to 1022: in units it is a * H
pub rounded_fraction : (a F H : ℕ) → 2 ^ (52 + F) ≤ 2 ^ 1074 → H * 2 ^ F ≡ 2 ^ 1074 → Rounded (grid binary64 a (2 ^ F)) (a * H)
rounded_fraction a F H small e =
    unscale (2 ^ F) (grid binary64 a (2 ^ F)) (a * H) (grid binary64 a (2 ^ F) * 2 ^ F) (a * 2 ^ 1074) (pow_pos F) refl
    (ap (λ (z : ℕ). a * z) (sym e) ∙ sym (mul_assoc a H (2 ^ F)))
    (relative_or_zero binary64 a (2 ^ F) (pow_pos F) (go (eq-zero-or-pos a)))
  where
    go : (a ≡ 0) ⊎ (0 < a) → (a ≡ 0) ⊎ Normal binary64 a (2 ^ F)
    go (inl z) = inl z
    go (inr p) = inr (le_trans (le_of_eq (sym (pow-add 2 52 F))) (le_trans small (le_trans (le_of_eq (sym (one-mul (2 ^ 1074)))) (mul-le-mul_right (2 ^ 1074) p))))

-- n / (r * 2 ^ 1074), which is n / r units
pub rounded_units : (n r : ℕ) → 0 < r → (n ≡ 0) ⊎ (2 ^ 52 * r ≤ n) → Rounded (grid binary64 n (r * 2 ^ 1074) * r) n
rounded_units n r R b =
    unscale (2 ^ 1074) (grid binary64 n (r * 2 ^ 1074) * r) n (grid binary64 n (r * 2 ^ 1074) * (r * 2 ^ 1074)) (n * 2 ^ 1074) (pow_pos 1074)
    (sym (mul_assoc (grid binary64 n (r * 2 ^ 1074)) r (2 ^ 1074))) refl
    (relative_or_zero binary64 n (r * 2 ^ 1074) (mul-pos R (pow_pos 1074)) (go b))
  where
    go : (n ≡ 0) ⊎ (2 ^ 52 * r ≤ n) → (n ≡ 0) ⊎ Normal binary64 n (r * 2 ^ 1074)
    go (inl z) = inl z
    go (inr l) = inr (le_trans (le_of_eq (sym (mul_assoc (2 ^ 52) r (2 ^ 1074)))) (mul-le-mul_right (2 ^ 1074) l))

-- ---- several roundings: 2 ^ 56 * |x - z| ≤ j * w
abbrev pub Off : ℕ → ℕ → ℕ → ℕ → Type 0
Off j x z w = (2 ^ 56 * x ≤ 2 ^ 56 * z + j * w) × (2 ^ 56 * z ≤ 2 ^ 56 * x + j * w)

pub off_first : (y x : ℕ) → Rounded y x → Off 8 y x x
off_first y x h = omega arith

pub off_weak : (i j x z w : ℕ) → j ≤ i → Off j x z w → Off i x z w
off_weak i j x z w h o = let k : j * w ≤ i * w = mul-le-mul_right w h in omega arith

room : (j x z w : ℕ) → j * w ≤ 2 ^ 50 * w → z ≤ w → 2 ^ 56 * x ≤ 2 ^ 56 * z + j * w → 8 * x ≤ 9 * w
room j x z w h l k = omega arith

join : (j x y z w : ℕ) → 8 * x ≤ 9 * w → Off j x z w → Off 8 y x x → Off (j + 9) y z w
join j x y z w h o r = omega arith

pub off_round : (j x y z w : ℕ) → j ≤ 2 ^ 50 → z ≤ w → Off j x z w → Rounded y x → Off (j + 9) y z w
off_round j x y z w h l o r = join j x y z w (room j x z w (mul-le-mul_right w h) l o.0) o (off_first y x r)

pub off_plus : (j x z w x' z' w' : ℕ) → Off j x z w → Off j x' z' w' → Off j (x + x') (z + z') (w + w')
off_plus j x z w x' z' w' o o' = omega arith

pub off_times : (j x z w k : ℕ) → Off j x z w → Off j (x * k) (z * k) (w * k)
off_times j x z w k o =
    let a = mul-le-mul_right k o.0 in
    let b = mul-le-mul_right k o.1 in
    omega (arith, a, b)

-- a difference of two, each near a multiple of N
pub off_less : (j x z w y u v : ℕ) → y ≤ x → u ≤ z → Off j x z w → Off j y u v → Off j (x - y) (z - u) (w + v)
off_less j x z w y u v h k o o' = omega arith

pub off_minus : (j x p w y q v N : ℕ) → y ≤ x → q ≤ p → Off j x (p * N) w → Off j y (q * N) v → Off j (x - y) ((p - q) * N) (w + v)
off_minus j x p w y q v N l c o o' = subst (λ (z : ℕ). Off j (x - y) z (w + v)) (sym (sub_mul p q N)) (off_less j x (p * N) w y (q * N) v l (mul-le-mul_right N c) o o')

-- the order of what is rounded is that of the multiples, if these are small; and the other way round, if one is far larger
pub off_order : (j x p w y q v N : ℕ) → j ≤ 2 ^ 6 → 0 < N → w + v ≤ 2 ^ 49 * N → y ≤ x → Off j x (p * N) w → Off j y (q * N) v → q ≤ p
off_order j x p w y q v N h n s l o o' = le_of_suc-le-suc (lt_of_mul-lt-mul_right N (omega (arith, le_trans (mul-le-mul_right (w + v) h) (mul-le-mul_left (2 ^ 6) s))))

pub off_far : (x z y u : ℕ) → 2 * u ≤ z → Off 17 x z z → Off 17 y u u → y ≤ x
off_far x z y u h o o' = omega arith

-- ---- to whole units of time: g is the result in 2 ^ -1074 seconds, H a unit, and E the nearest unit
pub final : (E g H D R w : ℕ) → 0 < R → 0 < H → Off 35 (g * R) (D * (R * H)) (w * (R * H)) → 2 * (E * H) ≤ 2 * g + H → 2 * g ≤ 2 * (E * H) + H
    → (2 ^ 57 * E ≤ 2 ^ 57 * D + 70 * w + 2 ^ 56) × (2 ^ 57 * D ≤ 2 ^ 57 * E + 70 * w + 2 ^ 56)
final E g H D R w r h o lo hi =
    let N = R * H in
    let a : (2 * (E * H)) * R ≤ (2 * g + H) * R = mul-le-mul_right R lo in
    let b : (2 * g) * R ≤ (2 * (E * H) + H) * R = mul-le-mul_right R hi in
    (le_of_mul-le-mul_right {k = R * H} (omega arith) (mul-pos r h), le_of_mul-le-mul_right {k = R * H} (omega arith) (mul-pos r h))
