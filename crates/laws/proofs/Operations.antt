-- The operations on floats by the fractions that the operands equal, zero and both signs included: each is one `round` of the exact result.
-- The idea: two fractions of one value round alike (`round_same`). Assumes nothing.
use mathlib.Core.Path.{◌≡◌, refl, sym, ap, ap₂, ◌∙◌, subst}
use Prim.Native.Nat.{ℕ, suc, ◌+◌, ◌-◌, ◌*◌, ◌^◌, ◌≤◌, ◌<◌}
use native.Mathlib.Nat.{lt_of_lt_of_le, lt_of_le_of_lt, lt_irrefl, lt_of_not-le, not-le_of_lt, mul_assoc, mul_comm, mul-mul-mul_comm, mul-le-mul_left, mul-pos, mul-sub}
use native.Mathlib.Omega.{arith}
use mathlib.Core.Bool.{Bool, true, false, not, cond, true≢false}
use lib.Dec.{T, ltb, eqb, eqb→eq, ltb→lt, nltb→le}
use lib.Pow.{pow-add, pow_pos, pow_mono, shl_lt}
use lib.Ieee.{Float, nan, inf, fin, Format, prec, emax, low, up, down, unlike, round, add, sub, mul, div}
use lib.Ieee.Fits.{up_pos, down_pos, reach}
use lib.Ieee.Exact.{HasValue, round_exact}
use lib.Ieee.Order.{transfer}
use lib.Ieee.Scale.{round_same}
use lib.Ieee.Positive.{first_pos}

-- ---- x / de is a / c, and y / dd is b / d
times : (x y de dd a b c d : ℕ) → x * c ≡ a * de → y * d ≡ b * dd → x * y * (c * d) ≡ a * b * (de * dd)
times x y de dd a b c d h k = mul-mul-mul_comm x y c d ∙ ap₂ (λ (u v : ℕ). u * v) h k ∙ mul-mul-mul_comm a de b dd

over : (x y de dd a b c d : ℕ) → x * c ≡ a * de → y * d ≡ b * dd → x * dd * (b * c) ≡ a * d * (y * de)
over x y de dd a b c d h k =
    let e : x * c * (b * dd) ≡ a * de * (y * d) = ap₂ (λ (u v : ℕ). u * v) h (sym k) in
    omega arith

plus : (x y de dd a b c d : ℕ) → x * c ≡ a * de → y * d ≡ b * dd → (x * dd + y * de) * (c * d) ≡ (a * d + b * c) * (de * dd)
plus x y de dd a b c d h k =
    let e : x * c * (dd * d) ≡ a * de * (dd * d) = ap (λ (u : ℕ). u * (dd * d)) h in
    let g : y * d * (de * c) ≡ b * dd * (de * c) = ap (λ (u : ℕ). u * (de * c)) k in
    omega arith

pub sub_mul : (x y z : ℕ) → (x - y) * z ≡ x * z - y * z
sub_mul x y z = mul_comm (x - y) z ∙ mul-sub z x y ∙ ap₂ (λ (a b : ℕ). a - b) (mul_comm z x) (mul_comm z y)

-- a product or a quotient with a value that has no sign keeps the other's
pub like_plus : (s : Bool) → unlike s false ≡ s
like_plus true = refl
like_plus false = refl

-- ---- the operations
pub mul_at : (f : Format) (x y : Float) (s t : Bool) (a c b d : ℕ) → 0 < c → 0 < d → HasValue x s a c → HasValue y t b d → mul f x y ≡ round f (unlike s t) (a * b) (c * d)
unfolding mul
mul_at f nan y s t a c b d C D h k = absurd h
mul_at f (inf s') y s t a c b d C D h k = absurd h
mul_at f (fin s' m e) nan s t a c b d C D h k = absurd k
mul_at f (fin s' m e) (inf t') s t a c b d C D h k = absurd k
mul_at f (fin s' m e) (fin t' n e') s t a c b d C D h k =
    ap₂ (λ (u v : Bool). round f (unlike u v) (m * up e * (n * up e')) (down e * down e')) h.0 k.0
    ∙ round_same f (unlike s t) (m * up e * (n * up e')) (down e * down e') (a * b) (c * d) (mul-pos (down_pos e) (down_pos e')) (mul-pos C D)
    (times (m * up e) (n * up e') (down e) (down e') a b c d h.1 k.1)

nonzero : (n u d b e : ℕ) → n * u * d ≡ b * e → 0 < b → 0 < e → 0 < n
nonzero n u d b e h B E = first_pos n u (first_pos (n * u) d (subst (λ (z : ℕ). 0 < z) (sym h) (mul-pos B E)))

pub div_at : (f : Format) (x y : Float) (s t : Bool) (a c b d : ℕ) → 0 < c → 0 < d → 0 < b → HasValue x s a c → HasValue y t b d → div f x y ≡ round f (unlike s t) (a * d) (b * c)
unfolding div
div_at f nan y s t a c b d C D B h k = absurd h
div_at f (inf s') y s t a c b d C D B h k = absurd h
div_at f (fin s' m e) nan s t a c b d C D B h k = absurd k
div_at f (fin s' m e) (inf t') s t a c b d C D B h k = absurd k
div_at f (fin s' m e) (fin t' n e') s t a c b d C D B h k =
    go (eqb n 0) (eqb→eq n 0)
    ∙ ap₂ (λ (u v : Bool). round f (unlike u v) (m * up e * down e') (n * up e' * down e)) h.0 k.0
    ∙ round_same f (unlike s t) (m * up e * down e') (n * up e' * down e) (a * d) (b * c) (mul-pos (mul-pos N (up_pos e')) (down_pos e)) (mul-pos B C)
    (over (m * up e) (n * up e') (down e) (down e') a b c d h.1 k.1)
  where
    N : 0 < n
    N = nonzero n (up e') d b (down e') k.1 B (down_pos e')

    go : (z : Bool) → (T z → n ≡ 0) → cond z (cond (eqb m 0) nan (inf (unlike s' t'))) (round f (unlike s' t') (m * up e * down e') (n * up e' * down e)) ≡ round f (unlike s' t') (m * up e * down e') (n * up e' * down e)
    go true g = absurd (lt_irrefl 0 (subst (λ (z : ℕ). 0 < z) (g tt) N))
    go false g = refl

-- of two values that are not negative
pub add_at : (f : Format) (x y : Float) (a c b d : ℕ) → 0 < c → 0 < d → HasValue x false a c → HasValue y false b d → add f x y ≡ round f false (a * d + b * c) (c * d)
unfolding add
add_at f nan y a c b d C D h k = absurd h
add_at f (inf s') y a c b d C D h k = absurd h
add_at f (fin true m e) y a c b d C D h k = absurd (true≢false h.0)
add_at f (fin false m e) nan a c b d C D h k = absurd k
add_at f (fin false m e) (inf t') a c b d C D h k = absurd k
add_at f (fin false m e) (fin true n e') a c b d C D h k = absurd (true≢false k.0)
add_at f (fin false m e) (fin false n e') a c b d C D h k =
    round_same f false (m * up e * down e' + n * up e' * down e) (down e * down e') (a * d + b * c) (c * d) (mul-pos (down_pos e) (down_pos e')) (mul-pos C D)
    (plus (m * up e) (n * up e') (down e) (down e') a b c d h.1 k.1)

-- of one that is negative and one that is not
minus : (x y de dd a b c d : ℕ) → x * c ≡ a * de → y * d ≡ b * dd → (y * de - x * dd) * (c * d) ≡ (b * c - a * d) * (de * dd)
minus x y de dd a b c d h k =
    let e : x * c * (dd * d) ≡ a * de * (dd * d) = ap (λ (u : ℕ). u * (dd * d)) h in
    let g : y * d * (de * c) ≡ b * dd * (de * c) = ap (λ (u : ℕ). u * (de * c)) k in
    sub_mul (y * de) (x * dd) (c * d) ∙ ap₂ (λ (u v : ℕ). u - v) (omega arith) (omega arith) ∙ sym (sub_mul (b * c) (a * d) (de * dd))

minus' : (x y de dd a b c d : ℕ) → x * c ≡ a * de → y * d ≡ b * dd → (x * dd - y * de) * (c * d) ≡ (a * d - b * c) * (de * dd)
minus' x y de dd a b c d h k =
    let e : x * c * (dd * d) ≡ a * de * (dd * d) = ap (λ (u : ℕ). u * (dd * d)) h in
    let g : y * d * (de * c) ≡ b * dd * (de * c) = ap (λ (u : ℕ). u * (de * c)) k in
    sub_mul (x * dd) (y * de) (c * d) ∙ ap₂ (λ (u v : ℕ). u - v) (omega arith) (omega arith) ∙ sym (sub_mul (a * d) (b * c) (de * dd))

pick_up : (f : Format) (x y c : ℕ) → x ≤ y → cond (ltb x y) (round f false (y - x) c) (round f (ltb y x) (x - y) c) ≡ round f false (y - x) c
pick_up f x y c l = go (ltb x y) (ltb y x) (nltb→le x y) (ltb→lt y x)
  where
    level : (x y : ℕ) → x ≤ y → y ≤ x → x - y ≡ y - x
    level x y h k = omega arith

    go : (u v : Bool) → (T (not u) → y ≤ x) → (T v → y < x) → cond u (round f false (y - x) c) (round f v (x - y) c) ≡ round f false (y - x) c
    go true v p q = refl
    go false true p q = absurd (not-le_of_lt (q tt) l)
    go false false p q = ap (λ (z : ℕ). round f false z c) (level x y l (p tt))

pick_down : (f : Format) (x y c : ℕ) → y < x → cond (ltb x y) (round f false (y - x) c) (round f (ltb y x) (x - y) c) ≡ round f true (x - y) c
pick_down f x y c l = go (ltb x y) (ltb y x) (ltb→lt x y) (nltb→le y x)
  where
    clash : (x y : ℕ) → x < y → y < x → ⊥
    clash x y h k = omega arith

    go : (u v : Bool) → (T u → x < y) → (T (not v) → x ≤ y) → cond u (round f false (y - x) c) (round f v (x - y) c) ≡ round f true (x - y) c
    go true v p q = absurd (clash x y (p tt) l)
    go false true p q = refl
    go false false p q = absurd (not-le_of_lt l (q tt))

pick_rest : (f : Format) (x y c : ℕ) → y ≤ x → cond (ltb x y) (round f true (y - x) c) (round f false (x - y) c) ≡ round f false (x - y) c
pick_rest f x y c l = go (ltb x y) (ltb→lt x y)
  where
    go : (u : Bool) → (T u → x < y) → cond u (round f true (y - x) c) (round f false (x - y) c) ≡ round f false (x - y) c
    go true p = absurd (not-le_of_lt (p tt) l)
    go false p = refl

pub add_up : (f : Format) (x y : Float) (a c b d : ℕ) → 0 < c → 0 < d → HasValue x true a c → HasValue y false b d → a * d ≤ b * c → add f x y ≡ round f false (b * c - a * d) (c * d)
unfolding add
add_up f nan y a c b d C D h k l = absurd h
add_up f (inf s') y a c b d C D h k l = absurd h
add_up f (fin false m e) y a c b d C D h k l = absurd (true≢false (sym h.0))
add_up f (fin true m e) nan a c b d C D h k l = absurd k
add_up f (fin true m e) (inf t') a c b d C D h k l = absurd k
add_up f (fin true m e) (fin true n e') a c b d C D h k l = absurd (true≢false k.0)
add_up f (fin true m e) (fin false n e') a c b d C D h k l =
    pick_up f (m * up e * down e') (n * up e' * down e) (down e * down e') (transfer (m * up e) (n * up e') (down e) (down e') a b c d C D h.1 k.1 l)
    ∙ round_same f false (n * up e' * down e - m * up e * down e') (down e * down e') (b * c - a * d) (c * d) (mul-pos (down_pos e) (down_pos e')) (mul-pos C D)
    (minus (m * up e) (n * up e') (down e) (down e') a b c d h.1 k.1)

pub add_down : (f : Format) (x y : Float) (a c b d : ℕ) → 0 < c → 0 < d → HasValue x true a c → HasValue y false b d → b * c < a * d → add f x y ≡ round f true (a * d - b * c) (c * d)
unfolding add
add_down f nan y a c b d C D h k l = absurd h
add_down f (inf s') y a c b d C D h k l = absurd h
add_down f (fin false m e) y a c b d C D h k l = absurd (true≢false (sym h.0))
add_down f (fin true m e) nan a c b d C D h k l = absurd k
add_down f (fin true m e) (inf t') a c b d C D h k l = absurd k
add_down f (fin true m e) (fin true n e') a c b d C D h k l = absurd (true≢false k.0)
add_down f (fin true m e) (fin false n e') a c b d C D h k l =
    pick_down f (m * up e * down e') (n * up e' * down e) (down e * down e')
    (lt_of_not-le (λ (g : m * up e * down e' ≤ n * up e' * down e). not-le_of_lt l (transfer a b c d (m * up e) (n * up e') (down e) (down e') (down_pos e) (down_pos e') (sym h.1) (sym k.1) g)))
    ∙ round_same f true (m * up e * down e' - n * up e' * down e) (down e * down e') (a * d - b * c) (c * d) (mul-pos (down_pos e) (down_pos e')) (mul-pos C D)
    (minus' (m * up e) (n * up e') (down e) (down e') a b c d h.1 k.1)

-- the difference of two that are not negative, the second no larger
pub sub_at : (f : Format) (x y : Float) (a c b d : ℕ) → 0 < c → 0 < d → HasValue x false a c → HasValue y false b d → b * c ≤ a * d → sub f x y ≡ round f false (a * d - b * c) (c * d)
unfolding sub
sub_at f nan y a c b d C D h k l = absurd h
sub_at f (inf s') y a c b d C D h k l = absurd h
sub_at f (fin true m e) y a c b d C D h k l = absurd (true≢false h.0)
sub_at f (fin false m e) nan a c b d C D h k l = absurd k
sub_at f (fin false m e) (inf t') a c b d C D h k l = absurd k
sub_at f (fin false m e) (fin true n e') a c b d C D h k l = absurd (true≢false k.0)
sub_at f (fin false m e) (fin false n e') a c b d C D h k l =
    pick_rest f (m * up e * down e') (n * up e' * down e) (down e * down e') (transfer (n * up e') (m * up e) (down e') (down e) b a d c D C k.1 h.1 l)
    ∙ round_same f false (m * up e * down e' - n * up e' * down e) (down e * down e') (a * d - b * c) (c * d) (mul-pos (down_pos e) (down_pos e')) (mul-pos C D)
    (minus' (m * up e) (n * up e') (down e) (down e') a b c d h.1 k.1)

-- ---- few digits: q / 2 ^ F is a value of the format for a q of prec digits, and F up to `low`
room : (p l e : ℕ) → p ≤ suc e → p + l ≤ l + suc e
room p l e h = omega arith

back : (l F : ℕ) → F ≤ l → l - F + F ≡ l
back l F h = omega arith

less : (l F : ℕ) → l - F ≤ l
less l F = omega arith

pub round_small : (f : Format) (s : Bool) (q F : ℕ) → q < 2 ^ prec f → F ≤ low f → HasValue (round f s q (2 ^ F)) s q (2 ^ F)
round_small f s q F Q L =
    let l = low f in
    round_exact f s q (2 ^ F) q (l - F) (pow_pos F) Q
    (lt_of_le_of_lt (mul-le-mul_left q (pow_mono (less l F))) (lt_of_lt_of_le (shl_lt (prec f) l Q) (pow_mono (room (prec f) l (emax f) (reach f)))))
    (ap (λ (x : ℕ). q * x) (ap (λ (x : ℕ). 2 ^ x) (sym (back l F L)) ∙ pow-add 2 (l - F) F) ∙ sym (mul_assoc q (2 ^ (l - F)) (2 ^ F)))
