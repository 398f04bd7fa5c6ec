-- Frames that stay in one phase are one run, and frames are cut in ch anywhere.
-- The idea: until its last frame a fade isn't over, so `settled` leaves the phase as it is. Assumes nothing.
use Prim.Native.Nat.{ℕ, zero, suc, ◌+◌, ◌<◌, ◌≤◌}
use mathlib.Core.Path.{◌≡◌, refl}
use mathlib.Core.List.{List}
use native.Mathlib.Omega.{arith}
use native.Mathlib.Nat.{add-zero, add-suc, add_assoc}
use native.Mathlib.Numerals.{add-one}
use lib.ListN.{length}
use lib.Ieee.{Float}
use borrow.Author.Tests.{lt-ltb}
use Rattle.sampler_voice.specs.declared.Channels.{Channels}
use Rattle.sampler_voice.specs.declared.Phase.{Phase}
use Rattle.sampler_voice.specs.declared.Phase.TheVariants.{Stopped, FadingIn, Playing, FadingOut}
use Rattle.sampler_voice.specs.Voices.{settled, next_phase, next_position, Heard, heard, sounded, frame, frames}
use Rattle.sampler_voice.specs.inner.Run.{later, run}
use Rattle.sampler_voice.proofs.Run.{later_zero, later_later}

-- a phase goes on for k frames more of a fade of F
abbrev pub Lasts : ℕ → Phase → ℕ → Type 0
Lasts F Stopped k = Unit {0}
Lasts F (FadingIn i) k = (i < F) × (i + k ≤ F)
Lasts F Playing k = Unit {0}
Lasts F (FadingOut i) k = (i < F) × (i + k ≤ F)

shorter : (F : ℕ) (ph : Phase) (k : ℕ) → Lasts F ph (suc k) → Lasts F ph k
shorter F Stopped k h = tt
shorter F (FadingIn i) k h = omega arith
shorter F Playing k h = tt
shorter F (FadingOut i) k h = omega arith

-- it is not over before its last frame
going : (F : ℕ) (ph : Phase) (k : ℕ) → Lasts F ph (suc k) → settled F (later k ph) ≡ later k ph
unfolding settled later
going F Stopped k h = refl
going F (FadingIn i) k h = simp (lt-ltb (i + k) F (omega arith))
going F Playing k h = refl
going F (FadingOut i) k h = simp (lt-ltb (i + k) F (omega arith))

begun : (F : ℕ) (ph : Phase) (k : ℕ) → Lasts F ph k → settled F ph ≡ ph
unfolding settled
begun F Stopped k h = refl
begun F (FadingIn i) k h = simp (lt-ltb i F h.0)
begun F Playing k h = refl
begun F (FadingOut i) k h = simp (lt-ltb i F h.0)

next_later : (F : ℕ) (ph : Phase) → next_phase F ph ≡ settled F (later 1 ph)
unfolding next_phase settled later
next_later F Stopped = refl
next_later F (FadingIn i) = refl
next_later F Playing = refl
next_later F (FadingOut i) = refl

-- the position k frames later, in the same phase
unfoldable pub moved_by : ℕ → Phase → ℕ → ℕ
moved_by k Stopped p = p
moved_by k (FadingIn i) p = p + k
moved_by k Playing p = p + k
moved_by k (FadingOut i) p = p + k

moved_zero : (ph : Phase) (p : ℕ) → moved_by 0 ph p ≡ p
unfolding moved_by
moved_zero Stopped p = refl
moved_zero (FadingIn i) p = add-zero p
moved_zero Playing p = add-zero p
moved_zero (FadingOut i) p = add-zero p

moved_suc : (ph : Phase) (k p : ℕ) → next_position (later k ph) (moved_by k ph p) ≡ moved_by (suc k) ph p
unfolding moved_by later
moved_suc Stopped k p = refl
moved_suc (FadingIn i) k p = omega arith
moved_suc Playing k p = omega arith
moved_suc (FadingOut i) k p = omega arith

module _ (rec : List Float) (rn : ℕ) (fade : List Float) (n : ℕ) (ch : Channels) where
  sounded_moved : (ph : Phase) (k p j : ℕ) (out : List Float)
      → sounded rec rn fade n ch (later k ph) (moved_by k ph p) j out ≡ sounded rec rn fade n ch (later k ph) (p + k) j out
  unfolding sounded later moved_by
  sounded_moved Stopped k p j out = refl
  sounded_moved (FadingIn i) k p j out = refl
  sounded_moved Playing k p j out = refl
  sounded_moved (FadingOut i) k p j out = refl

  pub chunk : (ph : Phase) (p j k : ℕ) (out : List Float) → Lasts (length fade) ph k
      → frames rec rn fade n ch j k (heard p ph out)
      ≡ heard (moved_by k ph p) (settled (length fade) (later k ph)) (run rec rn fade n ch ph p j k out)
  unfolding frames frame run
  chunk ph p j zero out h = simp (moved_zero, later_zero, begun (length fade) ph zero h)
  chunk ph p j (suc k) out h =
      simp (chunk ph p j k out (shorter (length fade) ph k h), going (length fade) ph k h, moved_suc, next_later, later_later k 1 ph, add-one, sounded_moved)

  -- pieces one after the other are one piece
  pub frames_add : (j k d : ℕ) (h : Heard) → frames rec rn fade n ch j (k + d) h ≡ frames rec rn fade n ch (j + k) d (frames rec rn fade n ch j k h)
  unfolding frames
  frames_add j k zero h = rw add-zero
  frames_add j k (suc d) h = rw add-suc (simp (frames_add j k d h, add_assoc))
