-- The frames from a position to the nearer of two stops, in whole numbers (`interval_int`); and exactly when there are none (`interval_none`, `interval_some`).
-- The idea: position and end as differences with one subtrahend. Assumes nothing.
use Rattle.std.proofs.Common.{◌≡◌, ℕ, suc, ◌+◌, ◌-◌, ◌*◌, ◌/◌, ◌^◌, ◌<◌, ◌≤◌, min, Bool, true, false, cond, not, T, leb, ℤ, pos, negsuc, ◌+ℤ◌, ◌-ℤ◌, sym, refl, ap, ◌∙◌, subst, lt_of_lt_of_le, add-zero, le_of_lt, mul-le-mul_right, add-mul, zero-mul, not-le_of_lt, sub-eq-zero_of_le, arith, lit≤, leb→le}
use native.Mathlib.Nat.{le-min, zero-min}
use lib.Dec.{nleb→lt}
use Rattle.timestamp.specs.Time.{time_of, round_of, frames_of, frame_near, earlier}
use lib.Ieee.Nearest.{closest}
use Rattle.laws.proofs.Near.{Near}
use Rattle.laws.proofs.Operations.{sub_mul}
use Rattle.timestamp.proofs.Values.{round_of_neg}
use Rattle.timestamp.proofs.Time.{T-near}
use Rattle.timestamp.proofs.Frames.{L, frames_n, S-round, S-value-neg, short, near_frame}
use Rattle.laws.proofs.Minus.{Minus, plus_minus, less_minus, earlier_minus, minus_pos, minus_negsuc}

-- from position P, of `left` frames, up to the end E: "round S(smaller of position + T(remaining) and E, minus position), at most remaining"
abbrev pub interval : ℕ → ℤ → ℤ → ℕ → ℕ
interval R P E left = min (frame_near R (earlier (P +ℤ time_of R left) E -ℤ P)) left

-- ---- the nearest frame to a time of either sign
frames_pos : (R t x : ℕ) → R < 2 ^ 18 → t < 2 ^ 35 → (2 * (t * R) + 2 ^ 32) / 2 ^ 33 ≡ x → round_of (frames_of R (pos t)) ≡ x
frames_pos R t x r h e = S-round R t (lt_of_lt_of_le r (lit≤ tt)) (lt_of_lt_of_le h (lit≤ tt)) (under (mul-le-mul_right R (le_of_lt h))) ∙ e
  where
    under : t * R ≤ 2 ^ 35 * R → t * R < 2 ^ 53
    under k = omega arith

frames_neg : (R m : ℕ) → R < 2 ^ 18 → suc m < 2 ^ 53 → round_of (frames_of R (negsuc m)) ≡ 0
frames_neg R m r h = round_of_neg (frames_of R (negsuc m)) (frames_n R (suc m)) L (S-value-neg R m (lt_of_lt_of_le r (lit≤ tt)) h)

-- ---- interval-int: the frames of a piece in whole numbers, always. Position and end are written as differences with one subtrahend, P = u - B and E = A - B;
-- t is T of the l frames that are left, and z = min (u + t) A - u the time to the next stop
abbrev pub frames_to : ℕ → ℕ → ℕ → ℕ → ℕ → ℕ
frames_to R l t u A = cond (leb (u + t) A) l (min ((2 * ((A - u) * R) + 2 ^ 32) / 2 ^ 33) l)

stop_int : (R l t : ℕ) (z : ℤ) (u A B : ℕ) → R < 2 ^ 18 → u < 2 ^ 50 → t < 2 ^ 35 → Near t (l * 2 ^ 32) R → Minus z (min (u + t) A + B) (B + u) → min (round_of (frames_of R z)) l ≡ frames_to R l t u A
stop_int R l t z u A B r small short near is = go (leb (u + t) A) (leb→le (u + t) A) (nleb→lt (u + t) A) (leb u A) (leb→le u A) (nleb→lt u A)
  where
    all : u + t ≤ A → t + (B + u) ≡ min (u + t) A + B
    all k = omega arith

    some : u ≤ A → A < u + t → A - u + (B + u) ≡ min (u + t) A + B
    some k g = omega arith

    some_lt : A < u + t → A - u < 2 ^ 35
    some_lt g = omega arith

    none : A < u → min (u + t) A + B + suc (u - suc A) ≡ B + u
    none k = omega arith

    none_lt : A < u → suc (u - suc A) < 2 ^ 53
    none_lt k = omega arith

    idem : (x : ℕ) → min x x ≡ x
    idem x = omega arith

    zero_is : (x y : ℕ) → x ≡ 0 → min 0 y ≡ min ((2 * (x * R) + 2 ^ 32) / 2 ^ 33) y
    zero_is x y e = ap (λ (v : ℕ). min v y) (ap (λ (v : ℕ). (2 * v + 2 ^ 32) / 2 ^ 33) (sym (ap (λ (v : ℕ). v * R) e ∙ zero-mul R)))

    go : (x : Bool) → (T x → u + t ≤ A) → (T (not x) → A < u + t) → (y : Bool) → (T y → u ≤ A) → (T (not y) → A < u)
        → min (round_of (frames_of R z)) l ≡ cond x l (min ((2 * ((A - u) * R) + 2 ^ 32) / 2 ^ 33) l)
    go true f g y f' g' =
        ap (λ (x : ℤ). min (round_of (frames_of R x)) l) (minus_pos z (min (u + t) A + B) (B + u) t is (all (f tt)))
        ∙ ap (λ (x : ℕ). min x l) (frames_pos R t l r short (near_frame R l t r near)) ∙ idem l
    go false f g true f' g' =
        ap (λ (x : ℤ). min (round_of (frames_of R x)) l) (minus_pos z (min (u + t) A + B) (B + u) (A - u) is (some (f' tt) (g tt)))
        ∙ ap (λ (x : ℕ). min x l) (frames_pos R (A - u) ((2 * ((A - u) * R) + 2 ^ 32) / 2 ^ 33) r (some_lt (g tt)) refl)
    go false f g false f' g' =
        ap (λ (x : ℤ). min (round_of (frames_of R x)) l) (minus_negsuc z (min (u + t) A + B) (B + u) (u - suc A) is (none (g' tt)))
        ∙ ap (λ (x : ℕ). min x l) (frames_neg R (u - suc A) r (none_lt (g' tt))) ∙ zero_is (A - u) l (sub-eq-zero_of_le (le_of_lt (g' tt)))

stop_minus : (P E : ℤ) (u t A B : ℕ) → Minus P u B → Minus E A B → Minus (earlier (P +ℤ pos t) E -ℤ P) (min (u + t) A + B) (B + u)
stop_minus P E u t A B p q =
    less_minus (earlier (P +ℤ pos t) E) P (min (u + t) A) B u B
    (earlier_minus (P +ℤ pos t) E (u + t) A B (subst (λ (x : ℕ). Minus (P +ℤ pos t) (u + t) x) (add-zero B) (plus_minus P (pos t) u B t 0 p (add-zero t))) q) p

pub interval_int : (R l : ℕ) (P E : ℤ) (u A B : ℕ) → 0 < R → R < 2 ^ 18 → l < 8 * R → u < 2 ^ 50 → Minus P u B → Minus E A B → interval R P E l ≡ frames_to R l (closest (l * 2 ^ 32) R) u A
interval_int R l P E u A B r r' h small p q =
    let t = closest (l * 2 ^ 32) R in
    let near = T-near R l r r' h in
    ap (λ (z : ℤ). min (round_of (frames_of R (earlier (P +ℤ z) E -ℤ P))) l) near.0
    ∙ stop_int R l t (earlier (P +ℤ pos t) E -ℤ P) u A B r' small (short R l t r' h near.1).0 near.1 (stop_minus P E u t A B p q)

-- ---- an end that is later than all that is left
all_left : (R l t u A : ℕ) → u + t ≤ A → frames_to R l t u A ≡ l
all_left R l t u A h = go (leb (u + t) A) (nleb→lt (u + t) A)
  where
    go : (x : Bool) → (T (not x) → A < u + t) → cond x l (min ((2 * ((A - u) * R) + 2 ^ 32) / 2 ^ 33) l) ≡ l
    go true g = refl
    go false g = absurd (not-le_of_lt (g tt) h)

pub interval_late : (R l P E : ℕ) → 0 < R → R < 2 ^ 18 → l < 8 * R → P < 2 ^ 50 → P + 2 ^ 35 ≤ E → interval R (pos P) (pos E) l ≡ l
interval_late R l P E r r' h small k =
    let t = closest (l * 2 ^ 32) R in
    interval_int R l (pos P) (pos E) P E 0 r r' h small (add-zero P) (add-zero E) ∙ all_left R l t P E (before t (short R l t r' h (T-near R l r r' h).1).0)
  where
    before : (t : ℕ) → t < 2 ^ 35 → P + t ≤ E
    before t s = omega arith

-- ---- a catch-up: the end is less than half a frame ahead, or past. Otherwise a frame at least is rendered
count : (x y : ℕ) → ℕ
count x y = (2 * (x - y) + 2 ^ 32) / 2 ^ 33

counted : (R u A : ℕ) → (2 * ((A - u) * R) + 2 ^ 32) / 2 ^ 33 ≡ count (A * R) (u * R)
unfolding count
counted R u A = ap (λ (x : ℕ). (2 * x + 2 ^ 32) / 2 ^ 33) (sub_mul A u R)

none_left : (R l t u A : ℕ) → R < 2 ^ 18 → 0 < l → Near t (l * 2 ^ 32) R → 2 * (A * R) < 2 * (u * R) + 2 ^ 32 → frames_to R l t u A ≡ 0
unfolding count
none_left R l t u A r p near s = go (leb (u + t) A) (leb→le (u + t) A)
  where
    early : (x y z w : ℕ) → y + z ≤ x → 2 * x < 2 * y + 2 ^ 32 → 2 * (l * 2 ^ 32) ≤ 2 * z + R → ⊥
    early x y z w h k m = omega arith

    zero_is : (x y : ℕ) → 2 * x < 2 * y + 2 ^ 32 → (2 * (x - y) + 2 ^ 32) / 2 ^ 33 ≡ 0
    zero_is x y k = omega arith

    go : (x : Bool) → (T x → u + t ≤ A) → cond x l (min ((2 * ((A - u) * R) + 2 ^ 32) / 2 ^ 33) l) ≡ 0
    go true f = absurd (early (A * R) (u * R) (t * R) 0 (subst (λ (x : ℕ). x ≤ A * R) (add-mul u t R) (mul-le-mul_right R (f tt))) s near.1)
    go false f = ap (λ (x : ℕ). min x l) (counted R u A ∙ zero_is (A * R) (u * R) s) ∙ zero-min l

some_left : (R l t u A : ℕ) → 0 < l → 2 * (u * R) + 2 ^ 32 ≤ 2 * (A * R) → 0 < frames_to R l t u A
unfolding count
some_left R l t u A p s = go (leb (u + t) A)
  where
    one : (x y : ℕ) → 2 * y + 2 ^ 32 ≤ 2 * x → 0 < (2 * (x - y) + 2 ^ 32) / 2 ^ 33
    one x y k = omega arith

    go : (x : Bool) → 0 < cond x l (min ((2 * ((A - u) * R) + 2 ^ 32) / 2 ^ 33) l)
    go true = p
    go false = le-min (subst (λ (x : ℕ). 0 < x) (sym (counted R u A)) (one (A * R) (u * R) s)) p

pub interval_none : (R l : ℕ) (P E : ℤ) (u A B : ℕ) → 0 < R → R < 2 ^ 18 → 0 < l → l < 8 * R → u < 2 ^ 50 → Minus P u B → Minus E A B → 2 * (A * R) < 2 * (u * R) + 2 ^ 32 → interval R P E l ≡ 0
interval_none R l P E u A B r r' pl h small p q s = interval_int R l P E u A B r r' h small p q ∙ none_left R l (closest (l * 2 ^ 32) R) u A r' pl (T-near R l r r' h).1 s

pub interval_some : (R l : ℕ) (P E : ℤ) (u A B : ℕ) → 0 < R → R < 2 ^ 18 → 0 < l → l < 8 * R → u < 2 ^ 50 → Minus P u B → Minus E A B → 2 * (u * R) + 2 ^ 32 ≤ 2 * (A * R) → 0 < interval R P E l
interval_some R l P E u A B r r' pl h small p q s = subst (λ (x : ℕ). 0 < x) (sym (interval_int R l P E u A B r r' h small p q)) (some_left R l (closest (l * 2 ^ 32) R) u A pl s)
