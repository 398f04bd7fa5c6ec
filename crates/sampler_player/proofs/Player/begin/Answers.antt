-- `sampler_player::Player::begin` meets its contract.
-- The idea: the code's test finds the definition's voice (`first_found`). Assumes nothing.
use Prim.Native.Nat.{ℕ}
use Rattle.std.specs.Prelude.{Option}
use mathlib.Core.Path.{◌≡◌, sym, ap, ◌∙◌}
use Rattle.std.proofs.Common.{rules, tests}
use Rattle.std.proofs.lemmas.Iterator.{YieldsList-from_slice}
use Rattle.std.proofs.lemmas.Iterator.Search.{position_from_yields_List}
use Rattle.sampler_voice.specs.declared.Voice.{Voice}
use Rattle.sampler_voice.specs.Voices.{is_stopped}
use Rattle.sampler_player.specs.Assign.{first_stopped, voiced, start_in, begin}
use Rattle.sampler_player.proofs.First.{first_found}
use Rattle.sampler_player.proofs.Player.begin.Goals as goal
use Rattle.sampler_player.proofs.Player.begin.Goals.{in-Some, in_default}

pub returns : goal.returns
unfolding begin
returns c =
    let vs = c.args.self.voices in
    let e : c.position-active.result ≡ first_stopped vs = position_from_yields_List (λ (v : Voice). is_stopped v.phase) _ _ c.position-active.result c.position-active.ensures.ran (YieldsList-from_slice vs (cc)) (λ x b q k. search (rules, tests)) ∙ first_found vs in
    elim c.match-active.branch [
      | in-Some w ↦ rw (w.voices-is, w.active-is, w.start_from_position.ensures) (ap (λ (a : Option ℕ). voiced (start_in a c.args.v vs) a c.args.self) (sym w.in-Some.is ∙ e))
      | in_default w ↦ rw (w.voices-is, w.active-is, w.in_default.is) (ap (λ (a : Option ℕ). voiced (start_in a c.args.v vs) a c.args.self) (sym w.in_default.is ∙ e))
    ]
