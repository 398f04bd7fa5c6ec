-- `buffered::input::Reader::read_floats` meets its contract.
-- The idea: after i turns i floats are read (Floats). Assumes nothing.
use Rattle.std.proofs.Common.{sym, ◌∙◌, arith, leb-true}
use Rattle.buffered.proofs.Floats.{one_more}
use Rattle.buffered.specs.Input.{held}
use Rattle.buffered.proofs.input.Reader.read_floats.Goals as goal

pub loop-entry-preserved : goal.loop-entry-preserved
loop-entry-preserved c =
    let l = c.loop-entry in
    let s = c.args.self.now in
    let r = c.fill.new.self in
    let h = leb-true 4 (held r.input) (sym c.holds.ensures ∙ c.if-not-holds.false) in
    let m = one_more s.bytes s.input l.self.bytes r.bytes l.self.input r.input l.entries l.entry-index l.invariant c.fill.ensures h (omega arith) in
    rw (c.pass.ensures.bytes_kept, c.pass.ensures.input, c.float.ensures) m
