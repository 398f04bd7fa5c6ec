-- `leg_bytes::reading::player_at` meets its contract.
-- The idea: the calls' equations, of parts that are all there. Assumes nothing.
use Rattle.std.proofs.Common.{refl}
use Rattle.leg_bytes.specs.Read.{player_at}
use Rattle.leg_bytes.proofs.Given.{there}
use Rattle.leg_bytes.proofs.reading.player_at.Goals as goal

pub returns : goal.returns
unfolding player_at
returns c =
    let a = there _ _ _ c.in_ok-first.ensures in
    let b = there _ _ _ c.in_ok-second.ensures in
    let n = there _ _ _ c.in_ok-active_of.ensures in
    let l = there _ _ _ c.in_ok-points_at.ensures in
    rw (a.0, a.1, b.0, b.1, ← c.number.ensures.value, n.0, n.1, l.0, l.1, c.time_at.ensures, c.time_at-2.ensures, c.number-2.ensures.value) refl
