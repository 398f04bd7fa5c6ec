-- What the numbers of what plays stay within while a block goes on. Definitions only.
use Rattle.std.specs.Prelude.{ℕ, ◌+◌, ◌*◌, ◌-◌, ◌^◌, Bool, true, ◌&&◌, ◌||◌, List, [], ◌∷◌, leb, pos, neg_ℤ}
use Rattle.laws.specs.Rules.{within}
use Rattle.sampler_voice.specs.declared.Voice.{Voice}
use Rattle.sampler_voice.specs.Voices.{is_stopped, fade_good}
use Rattle.sampler_player.specs.declared.Setup.{Setup}
use Rattle.sampler_player.specs.declared.Player.{Player}
use Rattle.sampler_player.specs.Sound.{active_good, loop_good}

-- ---- inside a block, with x of its frames still to come: each bound has room for x frames more, none of which is longer than 2 ^ 20 units

abbrev pub voices_kept : ℕ → ℕ → List Voice → Bool
voices_kept F x [] = true
voices_kept F x (v ∷ vs) =
    (fade_good F v.phase && (leb v.position (2 ^ 40) && (is_stopped v.phase || leb (v.position + x) (2 ^ 39 + 4096)))) && voices_kept F x vs

unfoldable pub kept : Setup → ℕ → Player → Bool
kept s x p =
    (active_good p.active p.voices && voices_kept s.fade x p.voices)
    && (within (neg_ℤ (pos (2 ^ 20))) (pos (2 ^ 48 + 2 ^ 34 - x * 2 ^ 20)) p.position.bits && loop_good s p)
