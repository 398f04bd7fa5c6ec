-- "Fade tables": the rule of a table. Definitions only.
use Rattle.std.specs.Prelude.{ℕ, ◌+◌, ◌-◌, ◌*◌, ◌/◌, ◌^◌, ◌≤◌, ◌<◌, ◌≡◌, List, T, length, Float}
use Rattle.std.specs.Float.Ieee.{lt}
use Rattle.std.specs.Float.Ieee.Positive.{num, den}
use Rattle.sampler_fade.specs.Entry.{none, one, entry}

-- "in scaled whole numbers": the value, num / den, in units of 2 ^ -149, the smallest that an f32 has, so that each f32 from 0 on is a whole number of them
abbrev pub scaled : Float → ℕ
scaled x = num x * 2 ^ 149 / den x

-- n is m within d
abbrev pub Within : ℕ → ℕ → ℕ → Type 0
Within d n m = (n ≤ m + d) × (m ≤ n + d)

pub record FadeRule (table : List Float) : Type 0 where
  -- "entry 0 is 0.0"
  pub first : entry table 0 ≡ none
  -- "entries rise strictly"
  pub rising : (i j : ℕ) → i < j → j < length table → T (lt (entry table i) (entry table j))
  -- "all lie below 1"
  pub below : (i : ℕ) → i < length table → T (lt (entry table i) one)
  -- "entries i and F−i sum to 1 within 2^-24": 2 ^ 125 units, of 2 ^ 149. Entry F is past the table, 1.0
  pub mirrored : (i : ℕ) → i ≤ length table → Within (2 ^ 125) (scaled (entry table i) + scaled (entry table (length table - i))) (2 ^ 149)
