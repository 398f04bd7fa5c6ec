-- Mixing pieces one after the other is mixing one piece, for any number of voices; so voice by voice is frame by frame.
-- The idea: a voice's later frames don't meet the next voices' earlier ones (`Apart`). Assumes nothing.
use Prim.Native.Nat.{ℕ, zero, suc, ◌+◌, ◌≤◌}
use mathlib.Core.Path.{◌≡◌, refl, sym, ◌∙◌, ap}
use mathlib.Core.List.{List, [], ◌∷◌}
use native.Mathlib.Omega.{arith}
use native.Mathlib.Nat.{add-zero}
use native.Mathlib.Numerals.{add-one}
use lib.Ieee.{Float}
use Rattle.sampler_voice.specs.declared.Channels.{Channels}
use Rattle.sampler_voice.specs.declared.Voice.{Voice}
use Rattle.sampler_voice.specs.Voices.{Heard, Mixed, lent, lent_all, frame, frames, mix, per_frame}
use Rattle.sampler_voice.proofs.Chunk.{frames_add}
use Rattle.sampler_voice.proofs.Apart.{mix_apart, later_apart}

module _ (rec : List Float) (rn : ℕ) (fade : List Float) (n : ℕ) (ch : Channels) where
  -- where a voice gets to doesn't depend on the output
  same_voice : (j k : ℕ) (w : Voice) (out o : List Float) → (frames rec rn fade n ch j k (lent w out)).voice ≡ (frames rec rn fade n ch j k (lent w o)).voice
  unfolding frames frame
  same_voice j zero w out o = refl
  same_voice j (suc k) w out o =
      ap (λ (v : Voice). (frame rec rn fade n ch (j + k) (lent v o)).voice) (same_voice j k w out o)

  mix_zero : (j : ℕ) (vs : List Voice) (out : List Float) → mix rec rn fade n ch j 0 vs out ≡ lent_all vs out
  unfolding mix frames
  mix_zero j [] out = refl
  mix_zero j (v ∷ vs) out = ap (λ (m : Mixed). lent_all (v ∷ m.voices) m.out) (mix_zero j vs out)

  -- pieces one after the other are one piece
  pub mix_add : (j k d : ℕ) (vs : List Voice) (out : List Float) → j + (k + d) ≤ n
      → mix rec rn fade n ch j (k + d) vs out
      ≡ mix rec rn fade n ch (j + k) d (mix rec rn fade n ch j k vs out).voices (mix rec rn fade n ch j k vs out).out
  unfolding mix
  mix_add j k d [] out l = refl
  mix_add j k d (v ∷ vs) out l =
      let h = frames rec rn fade n ch j k (lent v out) in
      let m = mix rec rn fade n ch j k vs h.out in
      let f : List Float → List Float = λ o. (frames rec rn fade n ch (j + k) d (lent h.voice o)).out in
      ap (λ (x : Heard). lent_all (x.voice ∷ (mix rec rn fade n ch j (k + d) vs x.out).voices) (mix rec rn fade n ch j (k + d) vs x.out).out) (frames_add rec rn fade n ch j k d (lent v out))
      ∙ ap (λ (x : Mixed). lent_all ((frames rec rn fade n ch (j + k) d h).voice ∷ x.voices) x.out)
      (mix_add j k d vs (f h.out) l
      ∙ ap (λ (x : Mixed). mix rec rn fade n ch (j + k) d x.voices x.out) (mix_apart rec rn fade n ch j k f vs h.out (later_apart rec rn fade n ch j k (j + k) d h.voice (omega arith) (omega arith))))
      ∙ ap (λ (w : Voice). lent_all (w ∷ (mix rec rn fade n ch (j + k) d m.voices (f m.out)).voices) (mix rec rn fade n ch (j + k) d m.voices (f m.out)).out)
      (same_voice (j + k) d h.voice h.out m.out)

  -- each voice over the whole piece is every voice over each frame
  pub by_frame : (j k : ℕ) (vs : List Voice) (out : List Float) → j + k ≤ n → mix rec rn fade n ch j k vs out ≡ per_frame rec rn fade n ch j k vs out
  unfolding per_frame
  by_frame j zero vs out l = mix_zero j vs out
  by_frame j (suc k) vs out l =
      ap (λ (x : ℕ). mix rec rn fade n ch j x vs out) (sym (add-one k))
      ∙ mix_add j k 1 vs out (omega arith)
      ∙ ap (λ (m : Mixed). mix rec rn fade n ch (j + k) 1 m.voices m.out) (by_frame j k vs out (omega arith))

  -- and a frame of a piece is `frame`
  pub one_frame : (j : ℕ) (h : Heard) → frames rec rn fade n ch j 1 h ≡ frame rec rn fade n ch j h
  unfolding frames
  one_frame j h = ap (λ (x : ℕ). frame rec rn fade n ch x h) (add-zero j)
