-- `leg_bytes::writing::bytes_of` meets its contract.
-- The idea: three parts, each behind the one before, are all of the array. Assumes nothing.
use Rattle.std.proofs.Common.{replicate, refl}
use Rattle.leg_bytes.specs.Write.{setup_bytes, player_bytes, queue_bytes, leg_bytes}
use Rattle.leg_bytes.proofs.Stores.{all_of}
use Rattle.leg_bytes.proofs.writing.bytes_of.Goals as goal

pub returns : goal.returns
unfolding leg_bytes
returns c =
    let l = c.args.leg in
    let p = c.put_setup in
    let q = c.put_player in
    all_of (replicate 490 0) p.new.bytes q.new.bytes c.put_queue.new.bytes (setup_bytes l.setup) (player_bytes l.player) (queue_bytes l.queue) 13 89
    p.ensures q.ensures c.put_queue.ensures refl refl refl
