-- How far frames move a voice: at most a frame a frame, and never back; a Stopped voice stays.
-- The idea: one frame at a time, by the phases. Assumes nothing.
use Prim.Native.Nat.{ℕ, zero, suc, ◌+◌, ◌≤◌}
use mathlib.Core.Path.{◌≡◌, sym}
use mathlib.Core.Bool.{true}
use mathlib.Core.List.{List}
use native.Mathlib.Omega.{arith}
use lib.ListN.{length}
use lib.Ieee.{Float}
use Rattle.sampler_voice.specs.declared.Channels.{Channels}
use Rattle.sampler_voice.specs.declared.Phase.{Phase}
use Rattle.sampler_voice.specs.declared.Phase.TheVariants.{Stopped, FadingIn, Playing, FadingOut}
use Rattle.sampler_voice.specs.Voices.{is_stopped, settled, next_position, Heard, frame, frames}
use Rattle.sampler_voice.proofs.Ways.{is_stopped_lem, stays}

moves_most : (ph : Phase) (p : ℕ) → (p ≤ next_position ph p) × (next_position ph p ≤ p + 1)
moves_most Stopped p = omega arith
moves_most (FadingIn i) p = omega arith
moves_most Playing p = omega arith
moves_most (FadingOut i) p = omega arith

module _ (rec : List Float) (rn : ℕ) (fade : List Float) (n : ℕ) (ch : Channels) where
  pub frames_moved : (j k : ℕ) (h : Heard)
      → (h.voice.position ≤ (frames rec rn fade n ch j k h).voice.position) × ((frames rec rn fade n ch j k h).voice.position ≤ h.voice.position + k)
  unfolding frames frame
  frames_moved j zero h = omega arith
  frames_moved j (suc k) h =
      let v = (frames rec rn fade n ch j k h).voice in
      omega (arith, frames_moved j k h, moves_most (settled (length fade) v.phase) v.position)

  pub frames_still : (j k : ℕ) (h : Heard) → is_stopped h.voice.phase ≡ true → frames rec rn fade n ch j k h ≡ h
  frames_still j k h e = sym (stays rec rn fade n ch h.voice j k h.out (is_stopped_lem h.voice.phase e))
