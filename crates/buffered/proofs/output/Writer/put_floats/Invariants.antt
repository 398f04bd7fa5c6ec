-- `buffered::output::Writer::put_floats` meets its contract.
-- The idea: the floats that are left, put after those that are, come to the same (Puts). Assumes nothing.
use Rattle.std.proofs.Common.{◌≡◌, drop}
use Rattle.buffered.specs.Output.{put_floats}
use Rattle.buffered.proofs.output.Writer.put_floats.Given as goal

abbrev pub invariant-loop-x : goal.invariant-loop-x
invariant-loop-x l =
    put_floats (drop l.x-index l.entries) l.self.bytes l.self.output.held ≡ put_floats l.entries l.initial.self.bytes l.initial.self.output.held
