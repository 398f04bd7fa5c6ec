-- `sampler_processor::numbers::may_render` meets its contract.
-- The idea: a leg that 14 lets through has few enough channels for the product of 3. Assumes nothing.
use mathlib.Core.Path.{sym, ◌∙◌}
use mathlib.Core.Bool.{not}
use mathlib.Core.List.{[]}
use borrow.Author.Tests.{not-false}
use Rattle.laws.proofs.Rules.{held}
use Rattle.sampler_processor.proofs.Legs.{sound_sized}
use Rattle.sampler_processor.proofs.numbers.may_render.Goals as goal

pub recording_bad-requires : goal.recording_bad-requires
recording_bad-requires c =
    let h = held 13 (not c.sound.result) [] (sym c.in_ok-rule.ensures) in
    (sound_sized c.args.leg.now (sym c.sound.ensures ∙ not-false c.sound.result h.0)).channels_high
