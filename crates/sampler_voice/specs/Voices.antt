-- "Voices, 0 then 1, per frame and channel": what a voice is, what starting, stopping and a frame make of it, and what is heard. Definitions only.
use Rattle.std.specs.Prelude.{ℕ, zero, suc, ◌+◌, max, Bool, true, false, cond, List, [], ◌∷◌, ltb, eqb, length, Float}
use Rattle.sampler_fade.specs.Entry.{fade_in, fade_out}
use Rattle.sampler_voice.specs.declared.Channels.{Channels}
use Rattle.sampler_voice.specs.declared.Pair.{Pair}
use Rattle.sampler_voice.specs.declared.Phase.{Phase}
use Rattle.sampler_voice.specs.declared.Phase.TheVariants.{Stopped, FadingIn, Playing, FadingOut}
use Rattle.sampler_voice.specs.declared.Voice.{Voice}
use Rattle.sampler_voice.specs.Sound.{fetched, scaled, added}

-- ---- a voice

-- a phase by its number. 1: fading in at i; 2: playing; 3: fading out at i; any other: stopped
abbrev pub numbered : ℕ → ℕ → Phase
numbered number i = cond (eqb number 1) (FadingIn i) (cond (eqb number 2) Playing (cond (eqb number 3) (FadingOut i) Stopped))

-- "Stopped at 0"
abbrev pub silent : Voice
silent = record { position = 0; phase = Stopped }

abbrev pub is_stopped : Phase → Bool
is_stopped Stopped = true
is_stopped (FadingIn i) = false
is_stopped Playing = false
is_stopped (FadingOut i) = false

-- "FadingIn or Playing"
abbrev pub is_held : Phase → Bool
is_held Stopped = false
is_held (FadingIn i) = true
is_held Playing = true
is_held (FadingOut i) = false

-- "fade positions are below F, or 0 when F is 0": below the larger of F and 1
abbrev pub fade_good : ℕ → Phase → Bool
fade_good F Stopped = true
fade_good F (FadingIn i) = ltb i (max F 1)
fade_good F Playing = true
fade_good F (FadingOut i) = ltb i (max F 1)

-- "starts at v": "Playing if v is 0, else FadingIn(0)"
abbrev pub started_at : ℕ → Voice
started_at v = record { position = v; phase = cond (eqb v 0) Playing (FadingIn 0) }

-- "each FadingIn or Playing voice becomes FadingOut(0)"
abbrev pub ended : Phase → Phase
ended Stopped = Stopped
ended (FadingIn i) = FadingOut 0
ended Playing = FadingOut 0
ended (FadingOut i) = FadingOut i

abbrev pub ended_voice : Voice → Voice
ended_voice v = record { position = v.position; phase = ended v.phase }

-- ---- a frame later

-- "After F frames: Playing, or Stopped"
unfoldable pub settled : ℕ → Phase → Phase
settled F Stopped = Stopped
settled F (FadingIn i) = cond (ltb i F) (FadingIn i) Playing
settled F Playing = Playing
settled F (FadingOut i) = cond (ltb i F) (FadingOut i) Stopped

unfoldable pub next_phase : ℕ → Phase → Phase
next_phase F Stopped = Stopped
next_phase F (FadingIn i) = settled F (FadingIn (i + 1))
next_phase F Playing = Playing
next_phase F (FadingOut i) = settled F (FadingOut (i + 1))

abbrev pub next_position : Phase → ℕ → ℕ
next_position Stopped p = p
next_position (FadingIn i) p = p + 1
next_position Playing p = p + 1
next_position (FadingOut i) p = p + 1

-- ---- what is heard

-- "Fade in at i: entry i. Fade out at i: entry F−i"; "Playing adds the sample"
unfoldable pub faded : List Float → Phase → Pair → Pair
faded fade Stopped p = p
faded fade (FadingIn i) p = scaled (fade_in fade i) p
faded fade Playing p = p
faded fade (FadingOut i) p = scaled (fade_out fade i) p

-- a voice, and the output that it is heard in
pub record Heard : Type 0 where
  pub voice : Voice
  pub out : List Float

abbrev pub lent : Voice → List Float → Heard
lent v out = record { voice = v; out = out }

abbrev pub heard : ℕ → Phase → List Float → Heard
heard p ph out = lent (record { position = p; phase = ph }) out

-- all voices, and the output
pub record Mixed : Type 0 where
  pub voices : List Voice
  pub out : List Float

abbrev pub lent_all : List Voice → List Float → Mixed
lent_all vs out = record { voices = vs; out = out }

-- what never changes: a recording of rn frames, the fade table, a block of n frames, and how many channels each side has
module _ (rec : List Float) (rn : ℕ) (fade : List Float) (n : ℕ) (ch : Channels) where
  -- "Past the recording's end positions advance and nothing is added"
  unfoldable pub sounded : Phase → ℕ → ℕ → List Float → List Float
  sounded Stopped p j out = out
  sounded (FadingIn i) p j out = cond (ltb p rn) (added n ch j (faded fade (FadingIn i) (fetched rec rn ch p)) out) out
  sounded Playing p j out = cond (ltb p rn) (added n ch j (faded fade Playing (fetched rec rn ch p)) out) out
  sounded (FadingOut i) p j out = cond (ltb p rn) (added n ch j (faded fade (FadingOut i) (fetched rec rn ch p)) out) out

  -- a voice over frame j of the block. A fade of 0 frames is over before it
  unfoldable pub frame : ℕ → Heard → Heard
  frame j h =
      let ph = settled (length fade) h.voice.phase in
      let p = h.voice.position in
      heard (next_position ph p) (next_phase (length fade) ph) (sounded ph p j h.out)

  -- and over k frames from j on
  unfoldable pub frames : ℕ → ℕ → Heard → Heard
  frames j zero h = h
  frames j (suc k) h = frame (j + k) (frames j k h)

  -- each voice in turn
  unfoldable pub mix : ℕ → ℕ → List Voice → List Float → Mixed
  mix j k [] out = lent_all [] out
  mix j k (v ∷ vs) out =
      let h = frames j k (lent v out) in
      let r = mix j k vs h.out in
      lent_all (h.voice ∷ r.voices) r.out

  -- "Voices, 0 then 1, per frame": every voice over frame j, then over the next. The same by law (proofs/Mix)
  unfoldable pub per_frame : ℕ → ℕ → List Voice → List Float → Mixed
  per_frame j zero vs out = lent_all vs out
  per_frame j (suc k) vs out =
      let m = per_frame j k vs out in
      mix (j + k) 1 m.voices m.out
