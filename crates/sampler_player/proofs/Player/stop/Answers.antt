-- `sampler_player::Player::stop` meets its contract.
-- The idea: what `map` gives is the definition's list, place by place. Assumes nothing.
use native.Mathlib.Omega.{arith}
use mathlib.Core.Path.{◌≡◌, sym, ap, ◌∙◌}
use mathlib.Core.List.{List, map}
use lib.ListN.{length, get_or}
use Rattle.std.proofs.Common.{rules}
use Rattle.std.proofs.lemmas.List.{same_lists, get_or-map, length-map}
use Rattle.std.specs.Prelude.{None}
use Rattle.sampler_voice.specs.declared.Voice.{Voice}
use Rattle.sampler_voice.specs.Voices.{ended_voice}
use Rattle.sampler_player.specs.Assign.{voiced, stop}
use Rattle.sampler_player.proofs.Player.stop.Goals as goal

pub returns : goal.returns
unfolding stop
returns c =
    let vs = c.args.self.voices in
    let two : length vs ≡ 2 = search rules in
    ap (λ (ws : List Voice). voiced ws None c.args.self)
    (same_lists c.map.result (map ended_voice vs) (c.map.ensures.items.long ∙ sym (length-map vs ended_voice ∙ two))
    (λ k d h. let e = c.map.ensures.items.at k d d (omega (arith, c.map.ensures.items.long)) in let y : get_or c.map.result k d ≡ ended_voice (get_or vs k d) = search rules in y ∙ sym (get_or-map ended_voice vs k d d (omega (arith, two, c.map.ensures.items.long)))))
