-- `sampler_voice::piece::render_out` meets its contract.
-- The idea: each way is one law of `Ways`: short of the fade's end or past it. Assumes nothing.
use mathlib.Core.Path.{◌≡◌, sym}
use native.Mathlib.Omega.{arith}
use Rattle.sampler_voice.proofs.Ways.{out_short, out_past}
use Rattle.sampler_voice.proofs.piece.render_out.Goals as goal
use Rattle.sampler_voice.proofs.piece.render_out.Goals.{then-k-left, else-k-left}

pub returns : goal.returns
returns c =
    let a = c.args in
    let s = a.source in
    let m = c.min-fading.result in
    elim c.if-k-left.branch [
      | then-k-left w ↦
          let e : m ≡ a.k = omega arith in
          rw (w.phase-is, c.fade_out.ensures, e)
          (sym (out_short s.recording.now s.frames s.fade.now a.n s.channels a.i a.p a.j a.k a.out.now (omega arith)))
      | else-k-left w ↦
          rw (w.phase-is, c.fade_out.ensures)
          (sym (out_past s.recording.now s.frames s.fade.now a.n s.channels a.i a.p a.j m a.k a.out.now (omega arith) (omega arith) c.requires.some_frames))
    ]
