-- `sampler_voice::piece::add_frames` meets its contract.
-- The idea: the invariant is the output after i frames of one run, whichever phase sounds so; a turn is one more (`step`). Assumes nothing.
use Prim.Native.Nat.{◌+◌, ◌<◌, ◌≤◌}
use mathlib.Core.Path.{◌≡◌, refl, ◌∙◌}
use native.Mathlib.Omega.{arith}
use Rattle.sampler_voice.specs.Sound.{fetched}
use Rattle.sampler_voice.specs.Voices.{faded}
use Rattle.sampler_voice.specs.inner.Run.{later, run}
use Rattle.sampler_voice.proofs.Run.{clip}
use Rattle.sampler_voice.proofs.Step.{step, later_sounds}
use Rattle.sampler_voice.proofs.piece.add_frames.Goals as goal

pub loop-i-init : goal.loop-i-init
unfolding run
loop-i-init g c = λ ph s. refl

pub loop-i-preserved : goal.loop-i-preserved
loop-i-preserved g c =
    let a = c.args in
    let l = c.loop-i in
    let few : l.i < a.k = omega arith in
    let inside : a.p + l.i < a.source.frames = omega arith in
    λ ph s.
    let q : c.sound-pair.result ≡ faded a.source.fade.now (later l.i ph) (fetched a.source.recording.now a.source.frames a.source.channels (a.p + l.i)) =
    rw (← c.fetch.ensures) (s.1 l.i c.fetch.result c.sound-pair.result few c.sound-pair.ensures) in
    step a.source.recording.now a.source.frames a.source.fade.now a.n a.source.channels ph a.p a.j l.i a.out.now l.out c.put.new.out
    c.sound-pair.result inside (later_sounds ph l.i s.0) (l.invariant ph s) q c.put.ensures

pub returns : goal.returns
returns g c =
    let a = c.args in
    let l = c.loop-i in
    let few : l.i ≤ a.k = omega arith in
    let all : l.i < a.k → a.source.frames ≤ a.p + l.i = (λ w. omega arith) in
    λ ph s.
    l.invariant ph s
    ∙ clip a.source.recording.now a.source.frames a.source.fade.now a.n a.source.channels ph a.p a.j l.i a.k a.out.now few all
