-- `buffered::output::Writer::put_bytes` meets its contract.
-- The idea: there is room, and a part of the buffer that became the bytes is the bytes stored (Puts). Assumes nothing.
use Rattle.std.proofs.Common.{refl, arith}
use Rattle.buffered.proofs.Puts.{put_of, part_stored}
use Rattle.buffered.proofs.output.Writer.put_bytes.Goals as goal

pub returns : goal.returns
returns c =
    let vs = c.args.bytes.now in
    let s = c.args.self.now in
    let r = c.make_room.ensures in
    let to = c.make_room.new.self in
    let w = c.copy_from_slice in
    put_of _ vs s.bytes _ s.output to.output refl r.value r.taken_kept (part_stored s.bytes to.bytes vs w.new.self to.output.held r.bytes_kept (omega arith) w.ensures.after)
