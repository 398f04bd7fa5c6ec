-- "active names a voice that is FadingIn or Playing while the other is Stopped or FadingOut, or is none ..": kept by Stop, by the start of a voice and by frames, of any number of voices.
-- The idea: frames move a voice between phases that are both held, or both not (sampler_voice's Phases). Assumes nothing.
use Prim.Native.Nat.{ℕ, zero, suc}
use mathlib.Core.Path.{◌≡◌, refl, ap}
use mathlib.Core.Bool.{Bool, true, false, ◌&&◌, not, cond}
use mathlib.Core.List.{List, [], ◌∷◌, map}
use lib.Ieee.{Float}
use Rattle.sampler_voice.specs.declared.Channels.{Channels}
use Rattle.sampler_voice.specs.declared.Voice.{Voice}
use Rattle.sampler_voice.specs.Voices.{is_stopped, is_held, ended_voice, lent, frames, mix}
use Rattle.sampler_voice.proofs.Phases.{started_held, ended_held, frames_held}
use Rattle.std.specs.Prelude.{Option, Some, None}
use Rattle.sampler_player.specs.Assign.{one_more, first_stopped, start_in}
use Rattle.sampler_player.specs.Sound.{none_held, only_held, active_good}
use Rattle.laws.proofs.Tests.{both, one_of, other_of}

-- ---- Stop
pub stopped_none : (vs : List Voice) → none_held (map ended_voice vs) ≡ true
stopped_none [] = refl
stopped_none (v ∷ vs) = both (ap not (ended_held v.phase)) (stopped_none vs)

-- ---- a start, where none is held
begins_one : (x : ℕ) (v : Voice) (vs : List Voice) (a : Option ℕ) → not (is_held v.phase) ≡ true → none_held vs ≡ true → active_good a (start_in a x vs) ≡ true
    → active_good (one_more a) (start_in (one_more a) x (v ∷ vs)) ≡ true
begins_one x v vs None p q h = both p q
begins_one x v vs (Some i) p q h = both p h

begins_first : (x : ℕ) (v : Voice) (vs : List Voice) (t : Bool) → none_held vs ≡ true
    → active_good (one_more (first_stopped vs)) (start_in (one_more (first_stopped vs)) x (v ∷ vs)) ≡ true
    → active_good (cond t (Some 0) (one_more (first_stopped vs))) (start_in (cond t (Some 0) (one_more (first_stopped vs))) x (v ∷ vs)) ≡ true
begins_first x v vs true q h = both (started_held x) q
begins_first x v vs false q h = h

pub begins : (x : ℕ) (vs : List Voice) → none_held vs ≡ true → active_good (first_stopped vs) (start_in (first_stopped vs) x vs) ≡ true
begins x [] h = refl
begins x (v ∷ vs) h =
    let p = one_of (not (is_held v.phase)) (none_held vs) h in
    let q = other_of (not (is_held v.phase)) (none_held vs) h in
    begins_first x v vs (is_stopped v.phase) q (begins_one x v vs (first_stopped vs) p q (begins x vs q))

-- ---- frames
module _ (rec : List Float) (rn : ℕ) (fade : List Float) (n : ℕ) (ch : Channels) where
  mix_none : (j k : ℕ) (vs : List Voice) (out : List Float) → none_held (mix rec rn fade n ch j k vs out).voices ≡ none_held vs
  unfolding mix
  mix_none j k [] out = refl
  mix_none j k (v ∷ vs) out =
      let h = frames rec rn fade n ch j k (lent v out) in
      λ i. not (frames_held rec rn fade n ch j k (lent v out) i) && mix_none j k vs h.out i

  mix_only : (a j k : ℕ) (vs : List Voice) (out : List Float) → only_held a (mix rec rn fade n ch j k vs out).voices ≡ only_held a vs
  unfolding mix
  mix_only a j k [] out = refl
  mix_only zero j k (v ∷ vs) out =
      let h = frames rec rn fade n ch j k (lent v out) in
      λ i. frames_held rec rn fade n ch j k (lent v out) i && mix_none j k vs h.out i
  mix_only (suc a) j k (v ∷ vs) out =
      let h = frames rec rn fade n ch j k (lent v out) in
      λ i. not (frames_held rec rn fade n ch j k (lent v out) i) && mix_only a j k vs h.out i

  pub mix_active : (a : Option ℕ) (j k : ℕ) (vs : List Voice) (out : List Float) → active_good a (mix rec rn fade n ch j k vs out).voices ≡ active_good a vs
  mix_active None j k vs out = mix_none j k vs out
  mix_active (Some i) j k vs out = mix_only i j k vs out
