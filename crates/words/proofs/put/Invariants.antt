-- `words::put` meets its contract.
-- The idea: the bytes that are left, stored over what is there, come to the same. Assumes nothing.
use Rattle.std.proofs.Common.{◌≡◌, ◌+◌, ◌-◌}
use Rattle.std.proofs.lemmas.List.Edits.{sets}
use Rattle.words.specs.Digits.{bytes_of}
use Rattle.words.proofs.put.Given as goal

abbrev pub invariant-loop-i : goal.invariant-loop-i
invariant-loop-i l = sets l.bytes l.i (bytes_of (l.at + l.n - l.i) l.left) ≡ sets l.initial.bytes l.at (bytes_of l.n l.number)
