-- In a frame a voice adds one pair, or nothing.
-- The idea: `sounded` by its phases says so; whether it adds is one Bool, and what it adds one pair. Assumes nothing.
use Prim.Native.Nat.{ℕ}
use mathlib.Core.Path.{◌≡◌, refl}
use mathlib.Core.Bool.{Bool, false, cond}
use mathlib.Core.List.{List}
use lib.Dec.{ltb}
use lib.Ieee.{Float}
use Rattle.sampler_voice.specs.declared.Channels.{Channels}
use Rattle.sampler_voice.specs.declared.Phase.{Phase}
use Rattle.sampler_voice.specs.declared.Phase.TheVariants.{Stopped, FadingIn, Playing, FadingOut}
use Rattle.sampler_voice.specs.Sound.{fetched, added}
use Rattle.sampler_voice.specs.Voices.{is_stopped, faded, sounded}

-- a phase that isn't Stopped, within a recording of rn frames
abbrev pub audible : ℕ → Phase → ℕ → Bool
audible rn ph p = cond (is_stopped ph) false (ltb p rn)

pub sounded_as : (rec : List Float) (rn : ℕ) (fade : List Float) (n : ℕ) (ch : Channels) (ph : Phase) (p j : ℕ) (out : List Float)
    → sounded rec rn fade n ch ph p j out ≡ cond (audible rn ph p) (added n ch j (faded fade ph (fetched rec rn ch p)) out) out
unfolding sounded
sounded_as rec rn fade n ch Stopped p j out = refl
sounded_as rec rn fade n ch (FadingIn i) p j out = refl
sounded_as rec rn fade n ch Playing p j out = refl
sounded_as rec rn fade n ch (FadingOut i) p j out = refl
