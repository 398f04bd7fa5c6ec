-- `leg_bytes::writing::put_queue` meets its contract.
-- The idea: after i turns i places stand behind the count. Assumes nothing.
use Rattle.std.proofs.Common.{◌≡◌}
use lib.Seq.{sets}
use Rattle.leg_bytes.specs.Write.{places_bytes}
use Rattle.leg_bytes.proofs.writing.put_queue.Given as goal

abbrev pub invariant-loop-i : goal.invariant-loop-i
invariant-loop-i l = l.bytes ≡ sets l.initial.bytes 90 (places_bytes l.queue l.i)
