-- What the loops do: frames that stay in one phase. Only inner functions' contracts cite this; proofs/Chunk says that it is `frames`. Definitions only.
use Rattle.std.specs.Prelude.{ℕ, zero, suc, ◌+◌, ◌<◌, ◌≡◌, false, List, Float}
use Rattle.sampler_voice.specs.declared.Channels.{Channels}
use Rattle.sampler_voice.specs.declared.Pair.{Pair}
use Rattle.sampler_voice.specs.declared.Phase.{Phase}
use Rattle.sampler_voice.specs.declared.Phase.TheVariants.{Stopped, FadingIn, Playing, FadingOut}
use Rattle.sampler_voice.specs.Voices.{is_stopped, faded, sounded}

-- the same phase k frames later
unfoldable pub later : ℕ → Phase → Phase
later k Stopped = Stopped
later k (FadingIn i) = FadingIn (i + k)
later k Playing = Playing
later k (FadingOut i) = FadingOut (i + k)

-- what `post` allows to be made of pairs, frame by frame, is what a phase that goes on makes of them for k frames
abbrev pub Sounds : List Float → Phase → ℕ → (ℕ → Pair → Pair → Type 0) → Type 0
Sounds fade ph k post =
    (is_stopped ph ≡ false) × ((i : ℕ) (q r : Pair) → i < k → post i q r → r ≡ faded fade (later i ph) q)

-- the output after k frames from j on of a voice that stays in one phase
module _ (rec : List Float) (rn : ℕ) (fade : List Float) (n : ℕ) (ch : Channels) where
  unfoldable pub run : Phase → ℕ → ℕ → ℕ → List Float → List Float
  run ph p j zero out = out
  run ph p j (suc k) out = sounded rec rn fade n ch (later k ph) (p + k) (j + k) (run ph p j k out)
