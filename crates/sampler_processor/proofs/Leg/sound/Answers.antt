-- `sampler_processor::Leg::sound` meets its contract.
-- The idea: the parts are what the calls answer, and the sizes are in range exactly where making refuses none. Assumes nothing.
use mathlib.Core.Path.{refl, sym, ap, ◌∙◌}
use Rattle.sampler_player.specs.declared.Setup.{Setup}
use Rattle.sampler_player.specs.Sound.{player_good}
use Rattle.sampler_processor.specs.Numbers.{queue_good, sound}
use Rattle.sampler_processor.proofs.Sizes.{sizes_taken, sizes_refused}
use Rattle.sampler_processor.proofs.Leg.sound.Goals as goal

pub returns-in_default : goal.returns-in_default
unfolding sound
returns-in_default c = rw (sizes_refused c.args.self.now.setup c.in_default.field-0 c.in_default.ensures.0) refl

pub returns-then-player_good : goal.returns-then-player_good
unfolding sound
returns-then-player_good c =
    let l = c.args.self.now in
    let is = c.in-Ok.ensures.1 in
    rw (sizes_taken l.setup c.in-Ok.ensures.0, ap (λ (s : Setup). player_good s l.player) (sym is) ∙ sym c.player_good.ensures ∙ c.if-player_good.true)
    (c.queue_good.ensures ∙ ap (λ (s : Setup). queue_good s l.queue) is)

pub returns-else-player_good : goal.returns-else-player_good
unfolding sound
returns-else-player_good c =
    let l = c.args.self.now in
    rw (sizes_taken l.setup c.in-Ok.ensures.0, ap (λ (s : Setup). player_good s l.player) (sym c.in-Ok.ensures.1) ∙ sym c.player_good.ensures ∙ c.if-player_good.false) c.if-player_good.false
