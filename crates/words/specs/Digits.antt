-- A number by its hex digits, the highest first, and by its bytes, the lowest first. Definitions only.
use Rattle.std.specs.Prelude.{ℕ, zero, suc, ◌+◌, ◌-◌, ◌*◌, ◌/◌, ◌%◌, cond, List, [], ◌∷◌, ltb}

-- what a byte counts as a digit: `0` to `9` and `a` to `f` their number, any other 0
abbrev pub digit_of : ℕ → ℕ
digit_of b = cond (ltb b 48) 0 (cond (ltb b 58) (b - 48) (cond (ltb b 97) 0 (cond (ltb b 103) (b - 87) 0)))

-- the number that n becomes by the digits put behind it
abbrev pub hex_from : ℕ → List ℕ → ℕ
hex_from n [] = n
hex_from n (b ∷ bs) = hex_from (n * 16 + digit_of b) bs

-- the number of some digits
abbrev pub hex_of : List ℕ → ℕ
hex_of s = hex_from 0 s

-- the n lowest bytes of a number
abbrev pub bytes_of : ℕ → ℕ → List ℕ
bytes_of zero u = []
bytes_of (suc n) u = (u % 256) ∷ bytes_of n (u / 256)
