-- Standard input through a buffer of 65,536 bytes: which of its bytes are held, and where they stand in the file. Definitions only.
use Rattle.std.specs.Prelude.{◌≡◌, ℕ, zero, suc, ◌+◌, ◌-◌, ◌*◌, ◌%◌, ◌^◌, ◌<◌, ◌≤◌, min, Bool, true, cond, List, [], ◌∷◌, ◌++◌, take, drop, from_bits, nat_le, Float}
use Rattle.std.specs.Float.{binary32}
use Rattle.sampler_event.specs.Record.{little}
use Rattle.buffered.specs.declared.input.Input.{Input}

-- how many bytes are held, from the next one on
abbrev pub held : Input → ℕ
held i = min i.end 65536 - i.at

-- those bytes, of what the buffer has
abbrev pub held_bytes : List ℕ → Input → List ℕ
held_bytes s i = take (held i) (drop i.at s)

-- the next byte's place in the file
abbrev pub place : Input → ℕ
place i = (i.gone + i.at) % 2 ^ 64

-- past the next n bytes
abbrev pub passed_by : ℕ → Input → Input
passed_by n i = record { at = (i.at + n) % 2 ^ 64; end = i.end; gone = i.gone }

-- What asking for n bytes leaves: `s` and `i` are the buffer and where reading stood before it, `t` and `r` after.
pub record Filled (n : ℕ) (s : List ℕ) (i : Input) (t : List ℕ) (r : Input) : Type 0 where
  -- the next byte's place in the file is the same
  pub same_place : place r ≡ place i
  -- the bytes that were held are still the next ones
  pub kept : take (held i) (held_bytes t r) ≡ held_bytes s i
  -- where n were held nothing moves
  pub at_once : n ≤ held i → (t ≡ s) × (r ≡ i)
  -- where n are not held now, a read that was to fill the whole buffer did not: the file has ended
  pub ended : held r < n → n ≤ 65536 → (r.at ≡ 0) × (r.end < 65536)

-- ---- what is read

-- the number of n bytes, the first of them `skip` past the next one, the lowest first
abbrev pub number_at : List ℕ → Input → ℕ → ℕ → ℕ
number_at s i skip n = little (take n (drop ((i.at + skip) % 2 ^ 64) s))

-- so many bytes, the first of them `skip` past the next one, where all are held; otherwise none
abbrev pub part_at : List ℕ → Input → ℕ → ℕ → List ℕ
part_at s i skip n = cond (nat_le (held i) skip) [] (cond (nat_le n (held i - skip)) (take n (drop (i.at + skip) s)) [])

-- the float of the four bytes from `at` on
abbrev pub float_at : List ℕ → ℕ → Float
float_at s at = from_bits binary32 (little (take 4 (drop at s)))

-- the floats of n times four bytes from `at` on
abbrev pub floats_at : List ℕ → ℕ → ℕ → List Float
floats_at s at zero = []
floats_at s at (suc n) = floats_at s at n ++ (float_at s (at + 4 * n) ∷ [])

-- What reading n floats leaves: `s` and `i` as above, `whole` is whether all were there, `r` where reading stands, `xs` the entries.
pub record Read (n : ℕ) (s : List ℕ) (i : Input) (whole : Bool) (r : Input) (xs : List Float) : Type 0 where
  -- the place in the file, where all were there
  pub then_place : whole ≡ true → place r ≡ (place i + 4 * n) % 2 ^ 64
  -- those whose bytes were held already are their floats
  pub held_floats : (k : ℕ) → k ≤ n → 4 * k ≤ held i → take k xs ≡ floats_at s i.at k
