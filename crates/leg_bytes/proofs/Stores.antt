-- Parts stored one after the other are stored together.
-- The idea: a run of stores goes on where the one before it ended. Assumes nothing.
use Rattle.std.proofs.Common.{◌≡◌, ℕ, zero, suc, ◌+◌, ◌*◌, List, [], ◌∷◌, ◌++◌, length, set, refl, ap, ◌∙◌, append-nil, add-zero, add-one, arith, length-append, drop_of_length-le}
use lib.Seq.{sets, sets-eq}
use Rattle.event_processor.specs.declared.Queue.{Queue}
use Rattle.leg_bytes.specs.Write.{record_bytes, place_of, places_bytes}

goes_on : (s a b : List ℕ) (at j : ℕ) → j ≡ at + length a → sets (sets s at a) j b ≡ sets s at (a ++ b)
goes_on s [] b at j e = ap (λ (k : ℕ). sets s k b) (e ∙ add-zero at)
goes_on s (x ∷ a) b at j e = goes_on (set s at x) a b (suc at) j (omega arith)

-- t holds a at its place, and u b behind it
pub joined : (s t u a b : List ℕ) (at j : ℕ) → t ≡ sets s at a → u ≡ sets t j b → j ≡ at + length a → u ≡ sets s at (a ++ b)
joined s t u a b at j p q e = q ∙ ap (λ (x : List ℕ). sets x j b) p ∙ goes_on s a b at j e

-- a whole list stored is that list
whole : (s v : List ℕ) → length v ≡ length s → sets s 0 v ≡ v
whole s v e =
    let z : 0 + length v ≡ length v = omega arith in
    sets-eq v s 0 (omega arith) ∙ ap (λ (k : List ℕ). v ++ k) (drop_of_length-le s {i = 0 + length v} (omega arith)) ∙ append-nil v

-- three parts that fill the list are all of it
pub all_of : (s t u v a b d : List ℕ) (i j : ℕ) → t ≡ sets s 0 a → u ≡ sets t i b → v ≡ sets u j d → i ≡ 0 + length a → j ≡ i + length b → length (a ++ (b ++ d)) ≡ length s → v ≡ a ++ (b ++ d)
all_of s t u v a b d i j p q r e f l = joined s t v a (b ++ d) 0 i p (joined t u v b d i j q r f) e ∙ whole s (a ++ (b ++ d)) l

-- ---- the places of the queue, 25 bytes each

pub length_places : (q : Queue) (n : ℕ) → length (places_bytes q n) ≡ 25 * n
length_places q zero = refl
length_places q (suc n) = let e = length_places q n in length-append (places_bytes q n) (record_bytes (place_of q n)) ∙ rw e (omega arith)

-- one place more
pub place_more : (q : Queue) (s t u : List ℕ) (i : ℕ) → t ≡ sets s 90 (places_bytes q i) → u ≡ sets t (90 + 25 * i) (record_bytes (place_of q i)) → u ≡ sets s 90 (places_bytes q (i + 1))
place_more q s t u i p e =
    let l = length_places q i in
    rw add-one (joined s t u (places_bytes q i) (record_bytes (place_of q i)) 90 (90 + 25 * i) p e (omega arith))
