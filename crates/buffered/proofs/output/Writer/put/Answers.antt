-- `buffered::output::Writer::put` meets its contract.
-- The idea: there is room, and the bytes are stored there (Puts). Assumes nothing.
use Rattle.words.proofs.Digits.{length_bytes}
use Rattle.words.specs.Digits.{bytes_of}
use Rattle.buffered.proofs.Puts.{put_of}
use Rattle.buffered.proofs.output.Writer.put.Goals as goal

pub returns : goal.returns
returns c =
    let a = c.args in
    let s = a.self.now in
    let r = c.make_room.ensures in
    put_of a.n (bytes_of a.n a.number) s.bytes c.put.new.bytes s.output c.make_room.new.self.output (length_bytes a.n a.number) r.value r.taken_kept
    (rw r.bytes_kept at c.put.ensures)
