-- `sampler_voice::piece::fade_in` meets its contract.
-- The idea: what the closure makes of a pair is what a fade in does (`fades_in`). Assumes nothing.
use Rattle.std.proofs.Common.{rules}
use Rattle.sampler_voice.specs.declared.Phase.TheVariants.{FadingIn}
use Rattle.sampler_voice.proofs.Step.{fades_in}
use Rattle.sampler_voice.proofs.piece.fade_in.Goals as goal

pub returns : goal.returns
returns c =
    c.add_frames.ensures (FadingIn c.args.f) (fades_in c.args.source.fade.now c.args.k _ c.args.f (λ i q r l m. search rules))
