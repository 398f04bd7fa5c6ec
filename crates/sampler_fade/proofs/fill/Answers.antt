-- `sampler_fade::fill` meets its contract: the table becomes the floats of the patterns.
-- The idea: at each turn the entries before i are the floats of the patterns before i. Assumes nothing.
use Prim.Native.Nat.{ℕ, ◌+◌, ◌≤◌, ◌<◌}
use mathlib.Core.Path.{◌≡◌, sym, ap, ◌∙◌}
use mathlib.Core.List.{List, map-append}
use native.Mathlib.Numerals.{add-one}
use native.Mathlib.Omega.{arith}
use lib.ListN.{length, get_or, take, set, length-set}
use lib.Seq.{take-suc, take-suc-set, take_all}
use lib.Ieee.{Float, binary32, of_bits}
use Rattle.laws.proofs.Tests.{no}
use Rattle.sampler_fade.specs.Entry.{table_of}
use Rattle.sampler_fade.proofs.Patterns.{no_nan}
use Rattle.sampler_fade.proofs.fill.Goals as goal

-- one turn: the entry written is the next pattern's float
turn : (t : List Float) (bits : List ℕ) (i : ℕ) → i < length bits → length t ≡ length bits → take i t ≡ table_of (take i bits)
    → take (i + 1) (set t i (of_bits binary32 (get_or bits i 0))) ≡ table_of (take (i + 1) bits)
turn t bits i h n e =
    let k : i < length t = omega arith in
    rw (add-one, take-suc-set, take-suc bits i 0, map-append, e)

-- after the last the whole table is
whole : (t : List Float) (bits : List ℕ) (i : ℕ) → length bits ≤ i → length t ≡ length bits → take i t ≡ table_of (take i bits) → t ≡ table_of bits
whole t bits i h n e =
    let k : length t ≤ i = omega arith in
    sym (take_all i t k) ∙ e ∙ ap table_of (take_all i bits h)

pub float_from_bits-table : goal.float_from_bits-table
float_from_bits-table c = no (no_nan binary32 _ (c.requires.below_infinity c.loop-i.i))

pub loop-i-preserved : goal.loop-i-preserved
loop-i-preserved c =
    let inv = c.loop-i.invariant in
    record {
      long = simp length-set inv.long;
      done = turn _ _ _ (omega arith) inv.long inv.done;
    }

pub returns : goal.returns
returns c =
    let inv = c.loop-i.invariant in
    whole _ _ _ (omega arith) inv.long inv.done
