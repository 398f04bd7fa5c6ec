-- A fade table and its entries, each an f32. F is the table's length. Definitions only.
use Rattle.std.specs.Prelude.{ℕ, ◌-◌, ◌&&◌, cond, List, map, length, get_or, Float}
use Rattle.std.specs.Float.{binary32}
use Rattle.std.specs.Float.Ieee.{le, of_bits}

-- 0.0 and 1.0
abbrev pub none : Float
none = of_bits binary32 0

abbrev pub one : Float
one = of_bits binary32 0x3f80_0000

-- "as f32 bits": the table that a list of bit patterns stands for
abbrev pub table_of : List ℕ → List Float
table_of bits = map (of_bits binary32) bits

-- entry i, "and 1.0 past the table"
abbrev pub entry : List Float → ℕ → Float
entry table i = get_or table i one

-- "a fade entry that is NaN or outside 0 to 1 as 1.0"
unfoldable pub cleaned_fade : Float → Float
cleaned_fade x = cond (le none x && le x one) x one

-- the entry as it counts
unfoldable pub fade_at : List Float → ℕ → Float
unfolding cleaned_fade
fade_at table i = cleaned_fade (entry table i)

-- "Fade in at i: entry i"
abbrev pub fade_in : List Float → ℕ → Float
fade_in table i = fade_at table i

-- "Fade out at i: entry F−i"; for an i above F, which 01 does not have, entry 0
abbrev pub fade_out : List Float → ℕ → Float
fade_out table i = fade_at table (length table - i)
