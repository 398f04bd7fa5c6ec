-- One turn of a loop that sounds frames in one phase is one more frame of `run`.
-- The idea: within the recording a phase that isn't Stopped adds its pair. Assumes nothing.
use Prim.Native.Nat.{ℕ, ◌+◌, ◌<◌}
use mathlib.Core.Path.{◌≡◌, refl}
use mathlib.Core.Bool.{false, true≢false}
use mathlib.Core.List.{List}
use native.Mathlib.Numerals.{add-one}
use lib.Ieee.{Float}
use borrow.Author.Tests.{lt-ltb}
use Rattle.sampler_fade.specs.Entry.{fade_in, fade_out}
use Rattle.sampler_voice.specs.declared.Channels.{Channels}
use Rattle.sampler_voice.specs.declared.Pair.{Pair}
use Rattle.sampler_voice.specs.declared.Phase.{Phase}
use Rattle.sampler_voice.specs.declared.Phase.TheVariants.{Stopped, FadingIn, Playing, FadingOut}
use Rattle.sampler_voice.specs.Sound.{fetched, scaled, added}
use Rattle.sampler_voice.specs.Voices.{is_stopped, faded, sounded}
use Rattle.sampler_voice.specs.inner.Run.{later, run, Sounds}

module _ (rec : List Float) (rn : ℕ) (fade : List Float) (n : ℕ) (ch : Channels) where
  pub adds : (ph : Phase) (p j : ℕ) (out : List Float) → p < rn → is_stopped ph ≡ false
      → sounded rec rn fade n ch ph p j out ≡ added n ch j (faded fade ph (fetched rec rn ch p)) out
  unfolding sounded
  adds Stopped p j out l s = absurd (true≢false s)
  adds (FadingIn i) p j out l s = simp (lt-ltb p rn l)
  adds Playing p j out l s = simp (lt-ltb p rn l)
  adds (FadingOut i) p j out l s = simp (lt-ltb p rn l)

  next : (ph : Phase) (p j i : ℕ) (out : List Float) → p + i < rn → is_stopped (later i ph) ≡ false
      → run rec rn fade n ch ph p j (i + 1) out
      ≡ added n ch (j + i) (faded fade (later i ph) (fetched rec rn ch (p + i))) (run rec rn fade n ch ph p j i out)
  unfolding run
  next ph p j i out l s = rw add-one (adds (later i ph) (p + i) (j + i) (run rec rn fade n ch ph p j i out) l s)

  pub step : (ph : Phase) (p j i : ℕ) (out₀ out out' : List Float) (q : Pair) → p + i < rn → is_stopped (later i ph) ≡ false
      → out ≡ run rec rn fade n ch ph p j i out₀
      → q ≡ faded fade (later i ph) (fetched rec rn ch (p + i))
      → out' ≡ added n ch (j + i) q out
      → out' ≡ run rec rn fade n ch ph p j (i + 1) out₀
  step ph p j i out₀ out out' q l s a b e = cc (next ph p j i out₀ l s)

-- a phase that isn't Stopped goes on as one
pub later_sounds : (ph : Phase) (i : ℕ) → is_stopped ph ≡ false → is_stopped (later i ph) ≡ false
unfolding later
later_sounds Stopped i s = s
later_sounds (FadingIn f) i s = s
later_sounds Playing i s = s
later_sounds (FadingOut f) i s = s

-- what is made of the pairs of a voice that plays, and of one that fades
module _ (fade : List Float) (k : ℕ) (post : ℕ → Pair → Pair → Type 0) where
  pub plays : ((i : ℕ) (q r : Pair) → i < k → post i q r → r ≡ q) → Sounds fade Playing k post
  unfolding faded later
  plays h = (refl, h)

  pub fades_in : (f : ℕ) → ((i : ℕ) (q r : Pair) → i < k → post i q r → r ≡ scaled (fade_in fade (f + i)) q) → Sounds fade (FadingIn f) k post
  unfolding faded later
  fades_in f h = (refl, h)

  pub fades_out : (f : ℕ) → ((i : ℕ) (q r : Pair) → i < k → post i q r → r ≡ scaled (fade_out fade (f + i)) q) → Sounds fade (FadingOut f) k post
  unfolding faded later
  fades_out f h = (refl, h)
