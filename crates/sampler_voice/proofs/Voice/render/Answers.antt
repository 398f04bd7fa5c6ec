-- `sampler_voice::Voice::render` meets its contract.
-- The idea: each phase is one law of `Ways`, or the contract of its function. Assumes nothing.
use mathlib.Core.Path.{sym, ◌∙◌}
use Rattle.std.proofs.Common.{rules}
use Rattle.sampler_voice.specs.declared.Phase.TheVariants.{FadingIn, Playing, FadingOut}
use Rattle.sampler_voice.specs.Voices.{frames}
use Rattle.sampler_voice.proofs.Step.{plays}
use Rattle.sampler_voice.proofs.Ways.{playing, known, stays}
use Rattle.sampler_voice.proofs.Voice.render.Goals as goal

pub returns-then-k-eq0 : goal.returns-then-k-eq0
unfolding frames
returns-then-k-eq0 c = rw c.if-k-eq0.true

pub returns-in-Stopped : goal.returns-in-Stopped
returns-in-Stopped c =
    let a = c.args in
    stays a.source.recording.now a.source.frames a.source.fade.now a.n a.source.channels a.self a.j a.k a.out.now c.in-Stopped.is

pub returns-in-FadingIn : goal.returns-in-FadingIn
returns-in-FadingIn c =
    let a = c.args in
    c.render_in.ensures
    ∙ sym (known a.source.recording.now a.source.frames a.source.fade.now a.n a.source.channels a.self (FadingIn _) a.j a.k a.out.now c.in-FadingIn.is)

pub returns-in-Playing : goal.returns-in-Playing
returns-in-Playing c =
    let a = c.args in
    let e = c.add_frames.ensures Playing (plays a.source.fade.now a.k _ (λ i q r l e. search rules)) in
    rw (e, c.in-Playing.is)
    (sym (playing a.source.recording.now a.source.frames a.source.fade.now a.n a.source.channels a.self.position a.j a.k a.out.now))

pub returns-in-FadingOut : goal.returns-in-FadingOut
returns-in-FadingOut c =
    let a = c.args in
    c.render_out.ensures
    ∙ sym (known a.source.recording.now a.source.frames a.source.fade.now a.n a.source.channels a.self (FadingOut _) a.j a.k a.out.now c.in-FadingOut.is)
