-- `sampler_player::Player::play_segment` meets its contract.
-- The idea: the loop carries `kept`, and that from here the passes come to the segment's end (`Turn`); it leaves where no pass is left. Assumes nothing.
use Prim.Native.Nat.{◌-◌, ◌<◌}
use native.Mathlib.Omega.{arith}
use mathlib.Core.Path.{refl, ap, ◌∙◌}
use Rattle.sampler_player.specs.Clock.{clock_at}
use Rattle.sampler_player.specs.Pieces.{Going, left_by, segment, lent_by}
use Rattle.sampler_player.specs.inner.Lending.{starting}
use Rattle.sampler_player.proofs.Fuel.{reach_start, reach_end}
use Rattle.sampler_player.proofs.Passes.{pass_spent}
use Rattle.sampler_player.proofs.Assigned.{kept_less}
use Rattle.sampler_player.proofs.Turn.{turning, turn_kept, turn_left, turn_count, turn_piece, turn_end}
use Rattle.sampler_player.proofs.Player.play_segment.Goals as goal

pub loop-left-init : goal.loop-left-init
loop-left-init c =
    let a = c.args in
    record {
      place = refl;
      count = omega arith;
      long = refl;
      carried = record { is = c.requires.player_kept; reach = reach_start (clock_at a.setup.rate) a.setup (lent_by a.lent) (starting a.self a.out.now a.at a.remaining) };
    }

pub catch_up-player-requires : goal.catch_up-player-requires
catch_up-player-requires c =
    let b = c.requires.ready.block in
    record { player_kept = kept_less c.args.setup (c.args.lent.block - c.loop-left.done) 0 c.loop-left.player (omega arith) (omega (arith, b)) c.loop-left.invariant.carried.is }

pub interval-n-requires-clause-player_kept : goal.interval-n-requires-clause-player_kept
interval-n-requires-clause-player_kept c = turn_left (turning c.args.self c.args.at c.requires.ready c.requires.within_block c.requires.player_kept c.loop-left-test.true c.loop-left.invariant c.catch_up-player.ensures)

pub process_voices-player-requires-clause-within_block : goal.process_voices-player-requires-clause-within_block
process_voices-player-requires-clause-within_block c =
    let t = turning c.args.self c.args.at c.requires.ready c.requires.within_block c.requires.player_kept c.loop-left-test.true c.loop-left.invariant c.catch_up-player.ensures in
    let w = t.inside in
    let m = turn_count t c.interval-n.result c.interval-n.ensures in
    omega (arith, w, m)

pub process_voices-player-requires-clause-player_kept : goal.process_voices-player-requires-clause-player_kept
process_voices-player-requires-clause-player_kept c =
    let t = turning c.args.self c.args.at c.requires.ready c.requires.within_block c.requires.player_kept c.loop-left-test.true c.loop-left.invariant c.catch_up-player.ensures in
    let w = t.inside in
    let m = turn_count t c.interval-n.result c.interval-n.ensures in
    turn_kept t c.interval-n.result (omega (arith, w, m))

pub overflow_add-done : goal.overflow_add-done
overflow_add-done c =
    let t = turning c.args.self c.args.at c.requires.ready c.requires.within_block c.requires.player_kept c.loop-left-test.true c.loop-left.invariant c.catch_up-player.ensures in
    let w = t.inside in
    let m = turn_count t c.interval-n.result c.interval-n.ensures in
    let b = c.requires.ready.block in
    omega (arith, w, m, b)

pub overflow_sub-left : goal.overflow_sub-left
overflow_sub-left c = turn_count (turning c.args.self c.args.at c.requires.ready c.requires.within_block c.requires.player_kept c.loop-left-test.true c.loop-left.invariant c.catch_up-player.ensures) c.interval-n.result c.interval-n.ensures

pub loop-left-preserved : goal.loop-left-preserved
loop-left-preserved c =
    let t = turning c.args.self c.args.at c.requires.ready c.requires.within_block c.requires.player_kept c.loop-left-test.true c.loop-left.invariant c.catch_up-player.ensures in
    let m = turn_count t c.interval-n.result c.interval-n.ensures in
    let i = c.loop-left.invariant in
    let some : 0 < c.interval-n.result = let h = c.if-n-eq0.false in omega (arith, h) in
    record {
      place = omega (arith, m, i.place);
      count = omega (arith, m, some, i.count);
      long = c.process_voices-player.auto.out ∙ i.long;
      carried = turn_piece t c.interval-n.result c.interval-n.ensures some c.process_voices-player.result c.process_voices-player.new.out c.process_voices-player.ensures;
    }

pub returns-after-loop-left : goal.returns-after-loop-left
returns-after-loop-left c =
    let a = c.args in
    let l = c.loop-left in
    let k = clock_at a.setup.rate in
    let g : Going = record { player = l.player; out = l.out; at = l.done; remaining = l.left; pieces = l.pieces } in
    ap left_by
    (reach_end k a.setup (lent_by a.lent) g (segment k a.setup (lent_by a.lent) (starting a.self a.out.now a.at a.remaining)) l.invariant.carried.reach
    (pass_spent k a.setup (lent_by a.lent) g (omega arith)))

pub returns-then-n-eq0 : goal.returns-then-n-eq0
returns-then-n-eq0 c = ap left_by (turn_end (turning c.args.self c.args.at c.requires.ready c.requires.within_block c.requires.player_kept c.loop-left-test.true c.loop-left.invariant c.catch_up-player.ensures) c.interval-n.result c.interval-n.ensures c.if-n-eq0.true)
