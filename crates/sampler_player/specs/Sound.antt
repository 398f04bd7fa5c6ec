-- What number 8 and "A leg is damaged unless" (14) ask of what plays. Definitions only.
use Rattle.std.specs.Prelude.{ℕ, zero, suc, ◌^◌, Bool, true, false, ◌&&◌, ◌||◌, not, List, [], ◌∷◌, leb, ltb, pos, neg_ℤ, Option, Some, None}
use Rattle.std.specs.Int.Signed.{lt_z}
use Rattle.sampler_voice.specs.declared.Voice.{Voice}
use Rattle.sampler_voice.specs.Voices.{is_stopped, is_held, fade_good}
use Rattle.laws.specs.Rules.{within}
use Rattle.sampler_event.specs.Limits.{place_bad, loop_short}
use Rattle.sampler_player.specs.declared.Points.{Points}
use Rattle.sampler_player.specs.declared.Points.TheVariants.{Absent, Between}
use Rattle.sampler_player.specs.declared.Setup.{Setup}
use Rattle.sampler_player.specs.declared.Player.{Player}

-- 8: "position above 2^48 units, or a voice that isn't Stopped above 2^39 frames"
abbrev pub any_far : List Voice → Bool
any_far [] = false
any_far (v ∷ vs) = (not (is_stopped v.phase) && ltb (2 ^ 39) v.position) || any_far vs

abbrev pub far_bad : Player → Bool
far_bad p = lt_z (pos (2 ^ 48)) p.position.bits || any_far p.voices

-- ---- 14: "A leg is damaged unless", of what plays

-- "active names a voice that is FadingIn or Playing while the other is Stopped or FadingOut, or is none and no voice is FadingIn or Playing"
abbrev pub none_held : List Voice → Bool
none_held [] = true
none_held (v ∷ vs) = not (is_held v.phase) && none_held vs

abbrev pub only_held : ℕ → List Voice → Bool
only_held i [] = false
only_held zero (v ∷ vs) = is_held v.phase && none_held vs
only_held (suc i) (v ∷ vs) = not (is_held v.phase) && only_held i vs

abbrev pub active_good : Option ℕ → List Voice → Bool
active_good None vs = none_held vs
active_good (Some i) vs = only_held i vs

-- "fade positions are below F, or 0 when F is 0; voice positions at most 2^40"
abbrev pub voices_good : ℕ → List Voice → Bool
voices_good F [] = true
voices_good F (v ∷ vs) = (fade_good F v.phase && leb v.position (2 ^ 40)) && voices_good F vs

-- "loop points pass 11 and 12"
abbrev pub points_good : Setup → Points → Bool
points_good s Absent = true
points_good s (Between from end) = not (place_bad from.bits || place_bad end.bits) && not (loop_short s.rate s.fade from.bits end.bits)

-- "completed loops at most 2^27"; "start position 0 to 2^42; loop points pass 11 and 12": what a block keeps as it is, but for the events
abbrev pub loop_good : Setup → Player → Bool
loop_good s p = leb p.completed (2 ^ 27) && (within (pos 0) (pos (2 ^ 42)) p.start.bits && points_good s p.points)

-- "completed loops at most 2^27; position from −2^20 to 2^49; start position 0 to 2^42"
unfoldable pub player_good : Setup → Player → Bool
player_good s p =
    (active_good p.active p.voices && voices_good s.fade p.voices)
    && (within (neg_ℤ (pos (2 ^ 20))) (pos (2 ^ 49)) p.position.bits && loop_good s p)
