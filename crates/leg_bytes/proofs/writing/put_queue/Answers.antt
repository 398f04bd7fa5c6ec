-- `leg_bytes::writing::put_queue` meets its contract.
-- The idea: after i turns i places stand behind the count. Assumes nothing.
use Rattle.std.proofs.Common.{◌≡◌, refl, arith}
use Rattle.leg_bytes.specs.Write.{u8, places_bytes}
use Rattle.leg_bytes.proofs.Stores.{joined, place_more}
use Rattle.leg_bytes.proofs.writing.put_queue.Goals as goal

pub loop-i-preserved : goal.loop-i-preserved
loop-i-preserved c =
    let l = c.loop-i in
    place_more c.args.queue c.put.new.bytes l.bytes c.put_record.new.bytes l.i l.invariant (rw c.place_of.ensures at c.put_record.ensures)

pub returns : goal.returns
returns c =
    let l = c.loop-i in
    let a = c.args in
    let p = c.put in
    let e : l.i ≡ 16 = omega arith in
    joined a.bytes.now p.new.bytes l.bytes (u8 a.queue.count) (places_bytes a.queue 16) 89 90 p.ensures (rw e at l.invariant) refl
