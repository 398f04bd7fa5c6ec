-- `buffered::input::Reader::read_floats` meets its contract.
-- The idea: after i turns i floats are read (Floats). Assumes nothing.
use Rattle.buffered.proofs.Floats.{Upto}
use Rattle.buffered.proofs.input.Reader.read_floats.Given as goal

abbrev pub invariant-loop-entry : goal.invariant-loop-entry
invariant-loop-entry l = Upto l.initial.self.bytes l.initial.self.input l.self.bytes l.self.input l.entries l.entry-index
