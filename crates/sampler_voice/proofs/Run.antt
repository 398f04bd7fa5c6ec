-- Laws of `run`, the frames of one phase.
-- The idea: past the recording's end nothing changes, and a run is cut in ch anywhere. Assumes nothing.
use Prim.Native.Nat.{ℕ, zero, zero-le, suc, ◌+◌, ◌-◌, ◌<◌, ◌≤◌}
use mathlib.Core.Path.{◌≡◌, refl, sym, ◌∙◌, ap}
use mathlib.Core.Logic.{⊎_elim}
use mathlib.Core.Bool.{false}
use mathlib.Core.List.{List}
use native.Mathlib.Omega.{arith}
use native.Mathlib.Nat.{add-zero, add-suc, add_assoc, add-sub_of_le, eq-or-lt_of_le}
use lib.ListN.{length}
use lib.Ieee.{Float}
use borrow.Author.Tests.{le-ltb}
use Rattle.sampler_fade.specs.Entry.{one, fade_out}
use Rattle.sampler_fade.proofs.Entry as Entry
use Rattle.sampler_voice.specs.declared.Channels.{Channels}
use Rattle.sampler_voice.specs.declared.Pair.{Pair}
use Rattle.sampler_voice.specs.declared.Phase.{Phase}
use Rattle.sampler_voice.specs.declared.Phase.TheVariants.{Stopped, FadingIn, Playing, FadingOut}
use Rattle.sampler_voice.specs.Sound.{fetched, scaled, added}
use Rattle.sampler_voice.specs.Voices.{is_stopped, faded, sounded}
use Rattle.sampler_voice.specs.inner.Run.{later, run, Sounds}
use Rattle.sampler_voice.proofs.Step.{adds, fades_out}

pub later_zero : (ph : Phase) → later 0 ph ≡ ph
unfolding later
later_zero Stopped = refl
later_zero (FadingIn i) = ap FadingIn (add-zero i)
later_zero Playing = refl
later_zero (FadingOut i) = ap FadingOut (add-zero i)

pub later_later : (k d : ℕ) (ph : Phase) → later d (later k ph) ≡ later (k + d) ph
unfolding later
later_later k d Stopped = refl
later_later k d (FadingIn i) = ap FadingIn (add_assoc i k d)
later_later k d Playing = refl
later_later k d (FadingOut i) = ap FadingOut (add_assoc i k d)

-- the first entry of a fade out is past the table, and so 1.0
pub full : (fade : List Float) → fade_out fade 0 ≡ one
full fade = Entry.past fade (length fade - 0) (omega arith)

-- so a fade out sounds full there
pub full_out : (fade : List Float) (k f : ℕ) (post : ℕ → Pair → Pair → Type 0) → ((i : ℕ) → i < k → f + i ≡ 0)
    → ((i : ℕ) (q r : Pair) → i < k → post i q r → r ≡ scaled one q) → Sounds fade (FadingOut f) k post
full_out fade k f post z h =
    fades_out fade k post f (λ i q r l e. h i q r l e ∙ ap (λ (g : Float). scaled g q) (sym (ap (fade_out fade) (z i l) ∙ full fade)))

module _ (rec : List Float) (rn : ℕ) (fade : List Float) (n : ℕ) (ch : Channels) where
  pub past : (ph : Phase) (p j : ℕ) (out : List Float) → rn ≤ p → sounded rec rn fade n ch ph p j out ≡ out
  unfolding sounded
  past Stopped p j out l = refl
  past (FadingIn i) p j out l = simp (le-ltb p rn l)
  past Playing p j out l = simp (le-ltb p rn l)
  past (FadingOut i) p j out l = simp (le-ltb p rn l)

  clip_add : (ph : Phase) (p j m d : ℕ) (out : List Float) → rn ≤ p + m
      → run rec rn fade n ch ph p j (m + d) out ≡ run rec rn fade n ch ph p j m out
  unfolding run
  clip_add ph p j m zero out l = rw add-zero
  clip_add ph p j m (suc d) out l =
      rw add-suc (past (later (m + d) ph) (p + (m + d)) (j + (m + d)) _ (omega arith) ∙ clip_add ph p j m d out l)

  pub clip : (ph : Phase) (p j m k : ℕ) (out : List Float) → m ≤ k → (m < k → rn ≤ p + m)
      → run rec rn fade n ch ph p j m out ≡ run rec rn fade n ch ph p j k out
  clip ph p j m k out l h =
      ⊎_elim (λ e. ap (λ (x : ℕ). run rec rn fade n ch ph p j x out) e)
      (λ w. sym (clip_add ph p j m (k - m) out (h w)) ∙ ap (λ (x : ℕ). run rec rn fade n ch ph p j x out) (add-sub_of_le l))
      (eq-or-lt_of_le l)

  pub run_add : (ph : Phase) (p j k d : ℕ) (out : List Float)
      → run rec rn fade n ch ph p j (k + d) out
      ≡ run rec rn fade n ch (later k ph) (p + k) (j + k) d (run rec rn fade n ch ph p j k out)
  unfolding run
  run_add ph p j k zero out = rw add-zero
  run_add ph p j k (suc d) out =
      rw add-suc (simp (run_add ph p j k d out, later_later, add_assoc))

  pub run_one : (ph : Phase) (p j : ℕ) (out : List Float) → p < rn → is_stopped ph ≡ false
      → run rec rn fade n ch ph p j 1 out ≡ added n ch j (faded fade ph (fetched rec rn ch p)) out
  unfolding run
  run_one ph p j out l s = simp (add-zero, later_zero, adds rec rn fade n ch ph p j out l s)

  -- where the recording is over, nothing changes
  pub nothing : (ph : Phase) (p j k : ℕ) (out : List Float) → rn ≤ p → out ≡ run rec rn fade n ch ph p j k out
  unfolding run
  nothing ph p j k out l = clip ph p j 0 k out zero-le (λ w. omega arith)

  -- a run is its first m frames, and then the others
  pub cut : (ph : Phase) (p j m k : ℕ) (out : List Float) → m ≤ k
      → run rec rn fade n ch ph p j k out ≡ run rec rn fade n ch (later m ph) (p + m) (j + m) (k - m) (run rec rn fade n ch ph p j m out)
  cut ph p j m k out l =
      ap (λ (x : ℕ). run rec rn fade n ch ph p j x out) (sym (add-sub_of_le l)) ∙ run_add ph p j m (k - m) out
