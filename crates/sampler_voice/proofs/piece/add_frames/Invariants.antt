-- `sampler_voice::piece::add_frames` meets its contract.
-- The idea: the invariant is the output after i frames of one run, whichever phase sounds so; a turn is one more (`step`). Assumes nothing.
use mathlib.Core.Path.{◌≡◌}
use Rattle.sampler_voice.specs.declared.Phase.{Phase}
use Rattle.sampler_voice.specs.inner.Run.{run, Sounds}
use Rattle.sampler_voice.proofs.piece.add_frames.Given as goal

abbrev pub invariant-loop-i : goal.invariant-loop-i
invariant-loop-i g l =
    (ph : Phase) → Sounds l.source.fade.now ph l.k (goal.F-post g l.sound)
    → l.out ≡ run l.source.recording.now l.source.frames l.source.fade.now l.n l.source.channels ph l.p l.j l.i l.initial.out
