-- `leg_bytes::parts::queue_at` meets its contract.
-- The idea: after i turns i places are read. Assumes nothing.
use Rattle.std.proofs.Common.{◌≡◌, refl, add-one, arith}
use Rattle.leg_bytes.specs.Read.{queue_at}
use Rattle.leg_bytes.proofs.parts.queue_at.Goals as goal

pub loop-i-preserved : goal.loop-i-preserved
loop-i-preserved c =
    let l = c.loop-i in
    rw (add-one l.i, l.invariant, c.place_at.ensures) refl

pub returns : goal.returns
unfolding queue_at
returns c =
    let l = c.loop-i in
    let e : l.i ≡ 16 = omega arith in
    let p = rw e at l.invariant in
    rw (p, c.number.ensures.value) refl
