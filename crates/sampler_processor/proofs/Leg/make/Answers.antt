-- `sampler_processor::Leg::make` meets its contract.
-- The idea: the answer hangs on the sizes alone: in range is the fresh leg, a refusal the blank one. Assumes nothing.
use Prim.Native.Nat.{ℕ}
use mathlib.Core.Path.{ap}
use Rattle.sampler_player.specs.declared.Setup.{Setup}
use Rattle.sampler_processor.specs.Calls.{made_by, make}
use Rattle.sampler_processor.proofs.Answers.{made-refused}
use Rattle.sampler_processor.proofs.Leg.make.Goals as goal

pub returns-in-Ok : goal.returns-in-Ok
unfolding make
returns-in-Ok c =
    let s : Setup = record { rate = c.args.rate; channels = c.args.channels; frames = c.args.frames; fade = c.args.fade } in
    rw c.fresh.ensures (ap (λ (n : ℕ). made_by n s) c.in-Ok.ensures.0)

pub returns-in-Err : goal.returns-in-Err
unfolding make
returns-in-Err c =
    let s : Setup = record { rate = c.args.rate; channels = c.args.channels; frames = c.args.frames; fade = c.args.fade } in
    rw c.fresh-in-Err.ensures (made-refused c.in-Err.refusal s _ c.in-Err.ensures.0)
