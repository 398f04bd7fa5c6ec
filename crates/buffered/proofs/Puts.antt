-- What putting bytes and floats leaves.
-- The idea: the bytes' number is their length, and a part that is written over is a copy (`paste`). Assumes nothing.
use Rattle.std.proofs.Common.{◌≡◌, ℕ, ◌+◌, ◌-◌, ◌<◌, ◌≤◌, List, length, get_or, take, drop, append_assoc, sym, refl, ap, ◌∙◌, add-one, arith, drop_of_length-le, drop-cons}
use Rattle.std.proofs.lemmas.List.Edits.{sets, sets-eq, paste_all}
use Rattle.std.proofs.lemmas.Slice.{put_mid-paste}
use borrow.Rule.Slice.PartMut.{put_mid}
use lib.Ieee.{Float, nan, binary32, to_bits}
use Rattle.words.specs.Digits.{bytes_of}
use Rattle.buffered.specs.declared.output.Output.{Output}
use Rattle.buffered.specs.Output.{spot, Put, put_floats}

pub put_of : (n : ℕ) (vs s t : List ℕ) (o to : Output) → length vs ≡ n → to.held ≡ spot o.held n → (o.held + n ≤ 65536 → to.taken ≡ o.taken) → t ≡ sets s to.held vs
    → Put vs s o t (record { held = to.held + n; taken = to.taken })
put_of n vs s t o to e h w b = record { bytes = rw (e, ← h) b; behind = rw (e, ← h) refl; unwritten = rw e w }

-- a part of m that became all of v is v stored
pub part_stored : (s m v w : List ℕ) (at : ℕ) → m ≡ s → at + length v ≤ length m → w ≡ v → put_mid at (at + length v - at) m w ≡ sets s at v
part_stored s m v w at k h e =
    put_mid-paste at (at + length v - at) m w v (length v) e (omega arith) refl ∙ paste_all m at v (length v) refl
    ∙ sym (append_assoc (take at m) v (drop (at + length v) m)) ∙ sym (sets-eq v m at h) ∙ ap (λ (l : List ℕ). sets l at v) k

-- one float more
pub put_more : (xs : List Float) (s t : List ℕ) (held to i : ℕ) → i < length xs → to ≡ spot held 4 → t ≡ sets s to (bytes_of 4 (to_bits binary32 (get_or xs i nan)))
    → put_floats (drop (i + 1) xs) t (to + 4) ≡ put_floats (drop i xs) s held
put_more xs s t held to i l h b = rw (add-one, drop-cons xs i nan l, b, h) refl

pub put_all : (xs : List Float) (s : List ℕ) (held i : ℕ) → length xs ≤ i → (s, held) ≡ put_floats (drop i xs) s held
put_all xs s held i l = rw (drop_of_length-le xs {i = i} l) refl
