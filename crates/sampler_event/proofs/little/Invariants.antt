-- `sampler_event::little` meets its contract.
-- The idea: `number` is that of the bytes past those that the iterator has left. Assumes nothing.
use Rattle.sampler_event.proofs.Bytes.{Past}
use Rattle.sampler_event.proofs.little.Given as goal

abbrev pub invariant-loop-byte : goal.invariant-loop-byte
invariant-loop-byte l = Past l.bytes l.byte-iterator.iter.rest.now l.number
