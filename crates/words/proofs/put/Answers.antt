-- `words::put` meets its contract.
-- The idea: the bytes that are left, stored over what is there, come to the same (Digits). Assumes nothing.
use Rattle.std.proofs.Common.{◌≡◌, ◌∙◌, ap, ℕ, ◌-◌, ◌+◌, arith}
use Rattle.std.proofs.lemmas.List.Edits.{sets}
use Rattle.words.specs.Digits.{bytes_of}
use Rattle.words.proofs.Digits.{byte_more, all_bytes}
use Rattle.words.proofs.put.Goals as goal

pub loop-i-init : goal.loop-i-init
loop-i-init c =
    let a = c.args in
    let e : a.at + a.n - a.at ≡ a.n = omega arith in
    ap (λ (m : ℕ). sets a.bytes.now a.at (bytes_of m a.number)) e

pub loop-i-preserved : goal.loop-i-preserved
loop-i-preserved c =
    let l = c.loop-i in
    byte_more l.bytes (c.args.at + c.args.n) l.i l.left (omega arith) ∙ l.invariant

pub returns : goal.returns
returns c =
    let l = c.loop-i in
    all_bytes l.bytes (c.args.at + c.args.n) l.i l.left (omega arith) ∙ l.invariant
