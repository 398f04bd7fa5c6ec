-- An array whose elements move by one place, as `copy_within` and the store after it leave it: of any element type.
-- The idea: what has moved and what stays are parts of the old array, and the store is where two of them meet. Assumes nothing.
use Prim.Native.Nat.{ℕ, suc, ◌+◌, ◌-◌, ◌≤◌, ◌<◌}
use mathlib.Core.Path.{◌≡◌, refl, sym}
use mathlib.Core.List.{List, [], ◌∷◌, ◌++◌, append-nil}
use native.Mathlib.Omega.{arith}
use native.Mathlib.Numerals.{add-one}
use lib.ListN.{length, take, drop, get_or, set, length-append, length-take, length-drop, take-append-drop, drop_of_length-le}
use lib.Seq.{get_or-take, take_all, take-set-lt, take-suc-set, drop-cons, set_at, set-append_left, length-take-le, append_snoc}
use Rattle.std.specs.List.{copy_within}
use Rattle.std.proofs.lemmas.List.{drop-take}

module _ {A : Type 0} where
  -- the first n, from i on, begin with the i-th of the array
  pub rest_at : (es : List A) (n i : ℕ) (z : A) → i < n → n ≤ length es → drop i (take n es) ≡ get_or es i z ∷ drop (suc i) (take n es)
  rest_at es n i z h m =
      let l = length-take-le n es m in
      rw (drop-cons (take n es) i z (omega arith), get_or-take n es i z h) refl

  -- down from the second on, and b in the last place
  pub moved_down : (es : List A) (n : ℕ) (b : A) → length es ≡ n + 1 → set (copy_within es 1 (length es) 0) n b ≡ drop 1 es ++ (b ∷ [])
  moved_down es n b h =
      let m : length es - 1 ≡ n = omega arith in
      let o : 0 + n ≡ n = omega arith in
      let k : length (drop 1 es) ≡ n = simp length-drop (omega arith) in
      let e : drop (suc n) es ≡ [] = drop_of_length-le es {i = suc n} (omega arith) in
      rw (m, o, take_all n (drop 1 es) (omega arith), drop-cons es n b (omega arith), e) (set_at (drop 1 es) (get_or es n b) [] b n k)

  -- up from k to n, over what stood at n
  abbrev pub up : List A → ℕ → ℕ → List A
  up es n k = take (k + 1) es ++ drop k (take n es) ++ drop (n + 1) es

  -- nothing has moved yet
  pub up_start : (es : List A) (n : ℕ) → es ≡ up es n n
  up_start es n =
      let l = length-take n es in
      let e : drop n (take n es) ≡ [] = drop_of_length-le (take n es) {i = n} (omega arith) in
      sym (rw (e, append-nil (take (n + 1) es)) (take-append-drop (n + 1) es))

  copied_up : (es : List A) (n k : ℕ) → k ≤ n → copy_within es k n (k + 1) ≡ up es n k
  copied_up es n k h =
      let m : k + (n - k) ≡ n = omega arith in
      let o : k + 1 + (n - k) ≡ n + 1 = omega arith in
      rw (o, ← drop-take k (n - k) es, m) refl

  -- and a in the place that this leaves
  pub moved_up : (es : List A) (n k : ℕ) (a : A) → k ≤ n → n < length es → set (copy_within es k n (k + 1)) k a ≡ take k es ++ a ∷ drop k (take n es) ++ drop (n + 1) es
  moved_up es n k a h m =
      let j : k < suc k = omega arith in
      let i : k < length es = omega arith in
      let l : length (take (suc k) es) ≡ suc k = length-take-le (suc k) es i in
      let q = length-append (take (suc k) es) (drop k (take n es)) in
      rw (copied_up es n k h, add-one k, set-append_left (take (suc k) es ++ drop k (take n es)) (drop (n + 1) es) k a (omega arith), set-append_left (take (suc k) es) (drop k (take n es)) k a (omega arith), ← take-set-lt (suc k) es k a j, take-suc-set es k a i, append_snoc) refl
