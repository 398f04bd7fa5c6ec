-- `leg_bytes::reading::queue_at` meets its contract.
-- The idea: after i turns i places are read, all of them well formed. Assumes nothing.
use Rattle.std.proofs.Common.{◌≡◌, true}
use Rattle.leg_bytes.specs.Read.{events_at, places_good}
use Rattle.leg_bytes.proofs.reading.queue_at.Given as goal

abbrev pub invariant-loop-i : goal.invariant-loop-i
invariant-loop-i l = (l.event-items ≡ events_at l.bytes l.i) × (places_good l.bytes l.i ≡ true)
