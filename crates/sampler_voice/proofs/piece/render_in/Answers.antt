-- `sampler_voice::piece::render_in` meets its contract.
-- The idea: each way is one law of `Ways`: short of the fade's end or past it. Assumes nothing.
use mathlib.Core.Path.{◌≡◌, sym}
use Prim.Native.Nat.{◌-◌}
use native.Mathlib.Omega.{arith}
use Rattle.std.proofs.Common.{rules}
use Rattle.sampler_voice.specs.declared.Phase.TheVariants.{Playing}
use Rattle.sampler_voice.specs.inner.Run.{run}
use Rattle.sampler_voice.proofs.Step.{plays}
use Rattle.sampler_voice.proofs.Ways.{in_short, in_past}
use Rattle.sampler_voice.proofs.piece.render_in.Goals as goal
use Rattle.sampler_voice.proofs.piece.render_in.Goals.{then-k-left, else-k-left}

pub returns : goal.returns
unfolding run
returns c =
    let a = c.args in
    let s = a.source in
    let m = c.min-fading.result in
    let rest = c.add_frames.ensures Playing (plays s.fade.now (a.k - m) _ (λ i q r l e. search rules)) in
    elim c.if-k-left.branch [
      | then-k-left w ↦
          let e : m ≡ a.k = omega arith in
          let none : a.k - m ≡ 0 = omega arith in
          rw (w.phase-is, rest, none, c.fade_in.ensures, e)
          (sym (in_short s.recording.now s.frames s.fade.now a.n s.channels a.i a.p a.j a.k a.out.now (omega arith)))
      | else-k-left w ↦
          rw (w.phase-is, rest, c.fade_in.ensures)
          (sym (in_past s.recording.now s.frames s.fade.now a.n s.channels a.i a.p a.j m a.k a.out.now (omega arith) (omega arith) c.requires.some_frames))
    ]
