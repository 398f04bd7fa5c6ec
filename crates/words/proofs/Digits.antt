-- Digits put behind a number, and one byte stored of one.
-- The idea: what 64 bits keep of a number is enough for what they keep of a longer one; what is stored past the end changes nothing. Assumes nothing.
use Rattle.std.proofs.Common.{◌≡◌, ℕ, zero, suc, ◌+◌, ◌*◌, ◌-◌, ◌/◌, ◌%◌, ◌^◌, ◌<◌, ◌≤◌, min, List, [], ◌∷◌, length, set, fold, refl, sym, ap, inl, inr, pow-suc, add-one, arith}
use Rattle.std.proofs.lemmas.Bool.{cases_lt}
use Rattle.std.proofs.lemmas.List.Edits.{sets}
use lib.Seq.{set_out}
use Rattle.sampler_event.specs.Record.{little}
use Rattle.words.specs.Digits.{digit_of, hex_from, bytes_of}

-- what 64 bits keep of a number, one digit longer
cut : (m n d : ℕ) → m ≡ n % 2 ^ 64 → (m * 16 % 2 ^ 64 + d) % 2 ^ 64 ≡ (n * 16 + d) % 2 ^ 64
cut m n d e = omega arith

-- one digit more, in 64 bits
abbrev pub put_behind : ℕ → ℕ → ℕ
put_behind m b = (m * 16 % 2 ^ 64 + digit_of b) % 2 ^ 64

pub all_digits : (m n : ℕ) (s : List ℕ) → m ≡ n % 2 ^ 64 → fold put_behind m s ≡ hex_from n s % 2 ^ 64
all_digits m n [] e = e
all_digits m n (b ∷ s) e = all_digits (put_behind m b) (n * 16 + digit_of b) s (cut m n (digit_of b) e)

-- ---- bytes

-- one byte stored at i, and those after it, are all of them up to the place `end`
pub byte_more : (s : List ℕ) (end i left : ℕ) → i < end → sets (set s i (left % 256)) (i + 1) (bytes_of (end - (i + 1)) (left / 256)) ≡ sets s i (bytes_of (end - i) left)
byte_more s end i left h =
    let k : end - i ≡ suc (end - (i + 1)) = omega arith in
    rw (k, add-one) refl

sets_out : (s : List ℕ) (i : ℕ) (vs : List ℕ) → length s ≤ i → sets s i vs ≡ s
sets_out s i [] h = refl
sets_out s i (v ∷ vs) h = rw (set_out s i v h) (sets_out s (suc i) vs (omega arith))

-- past the end nothing is stored
pub all_bytes : (s : List ℕ) (end i left : ℕ) → min end (length s) ≤ i → s ≡ sets s i (bytes_of (end - i) left)
all_bytes s end i left h = elim (cases_lt i end) [
  | inl g ↦ sym (sets_out s i (bytes_of (end - i) left) (omega arith))
  | inr e ↦ let z : end - i ≡ 0 = omega arith in rw z refl
]

pub length_bytes : (n u : ℕ) → length (bytes_of n u) ≡ n
length_bytes zero u = refl
length_bytes (suc n) u = ap suc (length_bytes n (u / 256))

-- the number of a number's bytes, where they are enough
pub little_bytes : (n u : ℕ) → u < 256 ^ n → little (bytes_of n u) ≡ u
little_bytes zero u h = omega arith
little_bytes (suc n) u h =
    let e = pow-suc 256 n in
    let l : u / 256 < 256 ^ n = omega arith in
    let r = little_bytes n (u / 256) l in
    omega arith
