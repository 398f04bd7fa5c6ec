-- `leg_bytes::reading::well_formed` meets its contract.
-- The idea: the calls' equations; the first part that is not there spoils the leg. Assumes nothing.
use Rattle.std.proofs.Common.{◌≡◌, length, refl, arith, ne_eqb}
use Rattle.leg_bytes.specs.Read.{read_leg}
use Rattle.leg_bytes.proofs.Given.{there, not_there}
use Rattle.leg_bytes.proofs.reading.well_formed.Goals as goal

pub returns-then-bytes-ne490 : goal.returns-then-bytes-ne490
unfolding read_leg
returns-then-bytes-ne490 c = rw (ne_eqb (length c.args.bytes.now) 490 c.if-bytes-ne490.true) refl

pub returns-in_err-player_at : goal.returns-in_err-player_at
unfolding read_leg
returns-in_err-player_at c =
    let e : length c.args.bytes.now ≡ 490 = omega arith in
    rw (c.from_residual.ensures, e, not_there _ _ c.in_err-player_at.ensures) refl

pub returns-in_err-queue_at : goal.returns-in_err-queue_at
unfolding read_leg
returns-in_err-queue_at c =
    let e : length c.args.bytes.now ≡ 490 = omega arith in
    let p = there _ _ _ c.in_ok-player_at.ensures in
    rw (c.from_residual-in_err-queue_at.ensures, e, p.0, not_there _ _ c.in_err-queue_at.ensures) refl

pub returns : goal.returns
unfolding read_leg
returns c =
    let e : length c.args.bytes.now ≡ 490 = omega arith in
    let p = there _ _ _ c.in_ok-player_at.ensures in
    let q = there _ _ _ c.in_ok-queue_at.ensures in
    rw (e, c.setup_at.ensures, p.0, p.1, q.0, q.1) refl
