-- A list of two is its two elements.
-- The idea: no other list is of that length. Assumes nothing.
use native.Mathlib.Omega.{arith}
use mathlib.Core.Path.{◌≡◌, refl}
use mathlib.Core.List.{List, [], ◌∷◌}
use lib.ListN.{length, get_or}

pub pair : {A : Type 0} (xs : List A) (d : A) → length xs ≡ 2 → xs ≡ get_or xs 0 d ∷ get_or xs 1 d ∷ []
pair [] d h = absurd (omega arith)
pair (x ∷ []) d h = absurd (omega arith)
pair (x ∷ y ∷ []) d h = refl
pair (x ∷ y ∷ z ∷ zs) d h = absurd (omega arith)
