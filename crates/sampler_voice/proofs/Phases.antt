-- What starting, stopping and frames make of a phase: who holds, and that fade positions stay good.
-- The idea: one frame at a time, by the phases; `settled` ends a fade before its position gets to F. Assumes nothing.
use Prim.Native.Nat.{ℕ, zero, suc, ◌+◌, ◌<◌, max}
use mathlib.Core.Path.{◌≡◌, refl, ◌∙◌}
use mathlib.Core.Bool.{Bool, true, false, cond}
use mathlib.Core.List.{List}
use native.Mathlib.Omega.{arith}
use lib.Dec.{ltb, eqb}
use lib.ListN.{length}
use lib.Ieee.{Float}
use borrow.Author.Tests.{lt-ltb, ltb-true}
use Rattle.sampler_voice.specs.declared.Channels.{Channels}
use Rattle.sampler_voice.specs.declared.Phase.{Phase}
use Rattle.sampler_voice.specs.declared.Phase.TheVariants.{Stopped, FadingIn, Playing, FadingOut}
use Rattle.sampler_voice.specs.Voices.{is_held, fade_good, started_at, ended, settled, next_phase, Heard, frame, frames}

-- ---- starting and stopping
first_fade : (F : ℕ) → ltb 0 (max F 1) ≡ true
first_fade F = lt-ltb 0 (max F 1) (omega arith)

pub started_held : (p : ℕ) → is_held (started_at p).phase ≡ true
started_held p = go (eqb p 0)
  where
    go : (t : Bool) → is_held (cond t Playing (FadingIn 0)) ≡ true
    go true = refl
    go false = refl

pub started_fade : (F p : ℕ) → fade_good F (started_at p).phase ≡ true
started_fade F p = go (eqb p 0)
  where
    go : (t : Bool) → fade_good F (cond t Playing (FadingIn 0)) ≡ true
    go true = refl
    go false = first_fade F

pub ended_held : (ph : Phase) → is_held (ended ph) ≡ false
ended_held Stopped = refl
ended_held (FadingIn i) = refl
ended_held Playing = refl
ended_held (FadingOut i) = refl

pub ended_fade : (F : ℕ) (ph : Phase) → fade_good F ph ≡ true → fade_good F (ended ph) ≡ true
ended_fade F Stopped h = refl
ended_fade F (FadingIn i) h = first_fade F
ended_fade F Playing h = first_fade F
ended_fade F (FadingOut i) h = h

-- ---- one frame: held stays held, and the fade position is good
settled_held : (F : ℕ) (ph : Phase) → is_held (settled F ph) ≡ is_held ph
unfolding settled
settled_held F Stopped = refl
settled_held F (FadingIn i) = go (ltb i F)
  where
    go : (t : Bool) → is_held (cond t (FadingIn i) Playing) ≡ true
    go true = refl
    go false = refl
settled_held F Playing = refl
settled_held F (FadingOut i) = go (ltb i F)
  where
    go : (t : Bool) → is_held (cond t (FadingOut i) Stopped) ≡ false
    go true = refl
    go false = refl

next_held : (F : ℕ) (ph : Phase) → is_held (next_phase F ph) ≡ is_held ph
unfolding next_phase
next_held F Stopped = refl
next_held F (FadingIn i) = settled_held F (FadingIn (i + 1))
next_held F Playing = refl
next_held F (FadingOut i) = settled_held F (FadingOut (i + 1))

within : (i F : ℕ) → ltb i F ≡ true → ltb i (max F 1) ≡ true
within i F h =
    let k : i < F = ltb-true i F h in
    lt-ltb i (max F 1) (omega arith)

settled_fade : (F : ℕ) (ph : Phase) → fade_good F (settled F ph) ≡ true
unfolding settled
settled_fade F Stopped = refl
settled_fade F (FadingIn i) = go (ltb i F) refl
  where
    go : (t : Bool) → ltb i F ≡ t → fade_good F (cond t (FadingIn i) Playing) ≡ true
    go true h = within i F h
    go false h = refl
settled_fade F Playing = refl
settled_fade F (FadingOut i) = go (ltb i F) refl
  where
    go : (t : Bool) → ltb i F ≡ t → fade_good F (cond t (FadingOut i) Stopped) ≡ true
    go true h = within i F h
    go false h = refl

next_fade : (F : ℕ) (ph : Phase) → fade_good F (next_phase F ph) ≡ true
unfolding next_phase
next_fade F Stopped = refl
next_fade F (FadingIn i) = settled_fade F (FadingIn (i + 1))
next_fade F Playing = refl
next_fade F (FadingOut i) = settled_fade F (FadingOut (i + 1))

-- ---- frames
module _ (rec : List Float) (rn : ℕ) (fade : List Float) (n : ℕ) (ch : Channels) where
  pub frames_held : (j k : ℕ) (h : Heard) → is_held (frames rec rn fade n ch j k h).voice.phase ≡ is_held h.voice.phase
  unfolding frames frame
  frames_held j zero h = refl
  frames_held j (suc k) h =
      let ph = (frames rec rn fade n ch j k h).voice.phase in
      next_held (length fade) (settled (length fade) ph) ∙ settled_held (length fade) ph ∙ frames_held j k h

  pub frames_fade : (j k : ℕ) (h : Heard) → fade_good (length fade) h.voice.phase ≡ true → fade_good (length fade) (frames rec rn fade n ch j k h).voice.phase ≡ true
  unfolding frames frame
  frames_fade j zero h g = g
  frames_fade j (suc k) h g = next_fade (length fade) (settled (length fade) (frames rec rn fade n ch j k h).voice.phase)
