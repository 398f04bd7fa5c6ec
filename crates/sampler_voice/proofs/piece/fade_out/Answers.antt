-- `sampler_voice::piece::fade_out` meets its contract.
-- The idea: a run is cut after its full frame (`cut`), and what each closure makes of a pair is what a fade out does (`fades_out`). Assumes nothing.
use Prim.Native.Nat.{ℕ, ◌+◌, ◌-◌, ◌≤◌, ◌<◌}
use mathlib.Core.Path.{◌≡◌, sym, ap, ◌∙◌}
use native.Mathlib.Omega.{arith}
use Rattle.std.proofs.Common.{rules}
use Rattle.sampler_voice.specs.declared.Phase.TheVariants.{FadingOut}
use Rattle.sampler_voice.specs.inner.Run.{later, run}
use Rattle.sampler_voice.proofs.Run.{cut, full_out}
use Rattle.sampler_voice.proofs.Step.{fades_out}
use Rattle.sampler_voice.proofs.piece.fade_out.Goals as goal
use Rattle.sampler_voice.proofs.piece.fade_out.Goals.{then-f-eq0, else-f-eq0}

-- of k frames from f on, m are full: one where the fade begins
record Full (f k m : ℕ) : Type 0 where
  few : m ≤ k
  first : (i : ℕ) → i < m → f + i ≡ 0

full_frames : (c : goal.After-slice_known-3-1) → Full c.args.f c.args.k c.if-f-eq0.full
full_frames c =
    elim c.if-f-eq0.branch [
      | then-f-eq0 w ↦ record { few = omega arith; first = λ i l. omega arith }
      | else-f-eq0 w ↦ record { few = omega arith; first = λ i l. absurd (omega arith) }
    ]

pub returns : goal.returns
unfolding later
returns c =
    let a = c.args in
    let m = c.if-f-eq0.full in
    let h = full_frames c in
    let first = c.add_frames.ensures (FadingOut a.f) (full_out a.source.fade.now m a.f _ h.first (λ i q r l e. search rules)) in
    let others = c.add_frames-2.ensures (FadingOut (a.f + m)) (fades_out a.source.fade.now (a.k - m) _ (a.f + m) (λ i q r l e. search rules)) in
    others
    ∙ ap (run a.source.recording.now a.source.frames a.source.fade.now a.n a.source.channels (FadingOut (a.f + m)) (a.p + m) (a.j + m) (a.k - m)) first
    ∙ sym (cut a.source.recording.now a.source.frames a.source.fade.now a.n a.source.channels (FadingOut a.f) a.p a.j m a.k a.out.now h.few)
