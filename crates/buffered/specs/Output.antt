-- Standard output through a buffer of 65,536 bytes: where the next bytes go. Definitions only.
use Rattle.std.specs.Prelude.{◌≡◌, ℕ, ◌+◌, ◌≤◌, cond, List, [], ◌∷◌, length, nat_le, to_bits, Float}
use Rattle.std.proofs.lemmas.List.Edits.{sets}
use Rattle.std.specs.Float.{binary32}
use Rattle.words.specs.Digits.{bytes_of}
use Rattle.buffered.specs.declared.output.Output.{Output}

-- where n bytes more go, of so many that are held: behind them, or to the front of the buffer, which is written out first, where they would not fit
abbrev pub spot : ℕ → ℕ → ℕ
spot held n = cond (nat_le (held + n) 65536) held 0

-- What putting the bytes `vs` leaves: `s` and `o` are the buffer and where writing stood before it, `t` and `r` after.
pub record Put (vs : List ℕ) (s : List ℕ) (o : Output) (t : List ℕ) (r : Output) : Type 0 where
  -- the bytes stand there, and nothing else moves
  pub bytes : t ≡ sets s (spot o.held (length vs)) vs
  pub behind : r.held ≡ spot o.held (length vs) + length vs
  -- where they fit nothing is written, so nothing can fail
  pub unwritten : o.held + length vs ≤ 65536 → r.taken ≡ o.taken

-- What putting floats one after the other leaves of the buffer, and how many bytes it then holds
abbrev pub put_floats : List Float → List ℕ → ℕ → List ℕ × ℕ
put_floats [] s held = (s, held)
put_floats (x ∷ xs) s held = put_floats xs (sets s (spot held 4) (bytes_of 4 (to_bits binary32 x))) (spot held 4 + 4)
