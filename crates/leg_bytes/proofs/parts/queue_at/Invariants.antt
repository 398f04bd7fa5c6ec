-- `leg_bytes::parts::queue_at` meets its contract.
-- The idea: after i turns i places are read. Assumes nothing.
use Rattle.std.proofs.Common.{◌≡◌}
use Rattle.leg_bytes.specs.Read.{events_at}
use Rattle.leg_bytes.proofs.parts.queue_at.Given as goal

abbrev pub invariant-loop-i : goal.invariant-loop-i
invariant-loop-i l = l.event-items ≡ events_at l.bytes l.i
