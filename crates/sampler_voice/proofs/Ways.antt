-- The ways of a piece: what `render` does on each is what the frames do.
-- The idea: cut the piece where a fade ends; each part stays in one phase. Assumes nothing.
use Prim.Native.Nat.{ℕ, zero, suc, ◌+◌, ◌-◌, ◌<◌, ◌≤◌}
use mathlib.Core.Path.{◌≡◌, refl, sym, ◌∙◌, ap}
use mathlib.Core.Bool.{true, false≢true}
use mathlib.Core.Logic.{inl, inr}
use mathlib.Core.List.{List, [], ◌∷◌}
use native.Mathlib.Omega.{arith}
use native.Mathlib.Nat.{add-zero, sub-zero, add-sub_of_le}
use lib.ListN.{length}
use lib.Ieee.{Float}
use Rattle.std.proofs.lemmas.Bool.{cases_lt}
use borrow.Author.Tests.{lt-ltb, le-ltb}
use Rattle.sampler_voice.specs.declared.Channels.{Channels}
use Rattle.sampler_voice.specs.declared.Voice.{Voice}
use Rattle.sampler_voice.specs.declared.Phase.{Phase}
use Rattle.sampler_voice.specs.declared.Phase.TheVariants.{Stopped, FadingIn, Playing, FadingOut}
use Rattle.sampler_voice.specs.Voices.{is_stopped, settled, next_phase, Heard, lent, heard, Mixed, lent_all, sounded, frame, frames, mix}
use Rattle.sampler_voice.specs.inner.Run.{later, run}
use Rattle.sampler_voice.proofs.Chunk.{moved_by, chunk, frames_add}

pub is_stopped_lem : (ph : Phase) → is_stopped ph ≡ true → ph ≡ Stopped
is_stopped_lem Stopped e = refl
is_stopped_lem (FadingIn i) e = absurd (false≢true e)
is_stopped_lem Playing e = absurd (false≢true e)
is_stopped_lem (FadingOut i) e = absurd (false≢true e)

module _ (rec : List Float) (rn : ℕ) (fade : List Float) (n : ℕ) (ch : Channels) where
  -- a fade that is over when frames begin counts as what follows it
  settle_first : (ph ps : Phase) (p j k : ℕ) (out : List Float) → settled (length fade) ph ≡ ps → settled (length fade) ps ≡ ps
      → frames rec rn fade n ch j (suc k) (heard p ph out) ≡ frames rec rn fade n ch j (suc k) (heard p ps out)
  unfolding frames frame
  settle_first ph ps p j zero out a b = simp (a, b)
  settle_first ph ps p j (suc k) out a b = ap (frame rec rn fade n ch (j + suc k)) (settle_first ph ps p j k out a b)

  pub playing : (p j k : ℕ) (out : List Float)
      → frames rec rn fade n ch j k (heard p Playing out) ≡ heard (p + k) Playing (run rec rn fade n ch Playing p j k out)
  unfolding moved_by settled later
  playing p j k out = chunk rec rn fade n ch Playing p j k out tt

  -- a Stopped voice adds nothing and stays
  pub stopped : (p j k : ℕ) (out : List Float) → frames rec rn fade n ch j k (heard p Stopped out) ≡ heard p Stopped out
  unfolding frames frame settled next_phase sounded
  stopped p j zero out = refl
  stopped p j (suc k) out = simp (stopped p j k out)

  pub in_over : (i p j k : ℕ) (out : List Float) → length fade ≤ i → 0 < k
      → frames rec rn fade n ch j k (heard p (FadingIn i) out) ≡ heard (p + k) Playing (run rec rn fade n ch Playing p j k out)
  unfolding settled
  in_over i p j zero out l z = elim z [ ]
  in_over i p j (suc k) out l z = settle_first (FadingIn i) Playing p j k out (simp (le-ltb i (length fade) l)) refl ∙ playing p j (suc k) out

  pub in_short : (i p j k : ℕ) (out : List Float) → i + k < length fade
      → frames rec rn fade n ch j k (heard p (FadingIn i) out) ≡ heard (p + k) (FadingIn (i + k)) (run rec rn fade n ch (FadingIn i) p j k out)
  unfolding moved_by settled later
  in_short i p j k out l = chunk rec rn fade n ch (FadingIn i) p j k out (omega arith) ∙ simp (lt-ltb (i + k) (length fade) l)

  in_end : (i p j k : ℕ) (out : List Float) → i < length fade → i + k ≡ length fade
      → frames rec rn fade n ch j k (heard p (FadingIn i) out) ≡ heard (p + k) Playing (run rec rn fade n ch (FadingIn i) p j k out)
  unfolding moved_by settled later
  in_end i p j k out l e = chunk rec rn fade n ch (FadingIn i) p j k out (omega arith) ∙ simp (le-ltb (i + k) (length fade) (omega arith))

  pub in_long : (i p j m k : ℕ) (out : List Float) → i < length fade → i + m ≡ length fade → m ≤ k
      → frames rec rn fade n ch j k (heard p (FadingIn i) out)
      ≡ heard (p + k) Playing (run rec rn fade n ch Playing (p + m) (j + m) (k - m) (run rec rn fade n ch (FadingIn i) p j m out))
  in_long i p j m k out l e h =
      ap (λ (x : ℕ). frames rec rn fade n ch j x (heard p (FadingIn i) out)) (sym (add-sub_of_le h))
      ∙ frames_add rec rn fade n ch j m (k - m) (heard p (FadingIn i) out)
      ∙ ap (frames rec rn fade n ch (j + m) (k - m)) (in_end i p j m out l e)
      ∙ playing (p + m) (j + m) (k - m) (run rec rn fade n ch (FadingIn i) p j m out)
      ∙ ap (λ (x : ℕ). heard x Playing (run rec rn fade n ch Playing (p + m) (j + m) (k - m) (run rec rn fade n ch (FadingIn i) p j m out))) (omega arith)

  -- the two in one: m frames fade, none where the fade is over, and the others play
  pub in_past : (i p j m k : ℕ) (out : List Float) → m ≡ length fade - i → m ≤ k → 0 < k
      → frames rec rn fade n ch j k (heard p (FadingIn i) out)
      ≡ heard (p + k) Playing (run rec rn fade n ch Playing (p + m) (j + m) (k - m) (run rec rn fade n ch (FadingIn i) p j m out))
  unfolding run
  in_past i p j m k out e h z =
      elim (cases_lt i (length fade)) [
        | inl l ↦ in_long i p j m k out l (omega arith) h
        | inr g ↦ let none : m ≡ 0 = omega arith in rw (none, add-zero, add-zero, sub-zero) (in_over i p j k out g z)
      ]

  pub out_over : (i p j k : ℕ) (out : List Float) → length fade ≤ i → 0 < k
      → frames rec rn fade n ch j k (heard p (FadingOut i) out) ≡ heard p Stopped out
  unfolding settled
  out_over i p j zero out l z = elim z [ ]
  out_over i p j (suc k) out l z = settle_first (FadingOut i) Stopped p j k out (simp (le-ltb i (length fade) l)) refl ∙ stopped p j (suc k) out

  pub out_short : (i p j k : ℕ) (out : List Float) → i + k < length fade
      → frames rec rn fade n ch j k (heard p (FadingOut i) out) ≡ heard (p + k) (FadingOut (i + k)) (run rec rn fade n ch (FadingOut i) p j k out)
  unfolding moved_by settled later
  out_short i p j k out l = chunk rec rn fade n ch (FadingOut i) p j k out (omega arith) ∙ simp (lt-ltb (i + k) (length fade) l)

  out_end : (i p j k : ℕ) (out : List Float) → i < length fade → i + k ≡ length fade
      → frames rec rn fade n ch j k (heard p (FadingOut i) out) ≡ heard (p + k) Stopped (run rec rn fade n ch (FadingOut i) p j k out)
  unfolding moved_by settled later
  out_end i p j k out l e = chunk rec rn fade n ch (FadingOut i) p j k out (omega arith) ∙ simp (le-ltb (i + k) (length fade) (omega arith))

  pub out_long : (i p j m k : ℕ) (out : List Float) → i < length fade → i + m ≡ length fade → m ≤ k
      → frames rec rn fade n ch j k (heard p (FadingOut i) out) ≡ heard (p + m) Stopped (run rec rn fade n ch (FadingOut i) p j m out)
  out_long i p j m k out l e h =
      ap (λ (x : ℕ). frames rec rn fade n ch j x (heard p (FadingOut i) out)) (sym (add-sub_of_le h))
      ∙ frames_add rec rn fade n ch j m (k - m) (heard p (FadingOut i) out)
      ∙ ap (frames rec rn fade n ch (j + m) (k - m)) (out_end i p j m out l e)
      ∙ stopped (p + m) (j + m) (k - m) (run rec rn fade n ch (FadingOut i) p j m out)

  pub out_past : (i p j m k : ℕ) (out : List Float) → m ≡ length fade - i → m ≤ k → 0 < k
      → frames rec rn fade n ch j k (heard p (FadingOut i) out) ≡ heard (p + m) Stopped (run rec rn fade n ch (FadingOut i) p j m out)
  unfolding run
  out_past i p j m k out e h z =
      elim (cases_lt i (length fade)) [
        | inl l ↦ out_long i p j m k out l (omega arith) h
        | inr g ↦ let none : m ≡ 0 = omega arith in rw (none, add-zero) (out_over i p j k out g z)
      ]

  -- a voice whose phase is known
  pub known : (v : Voice) (ph : Phase) (j k : ℕ) (out : List Float) → v.phase ≡ ph
      → frames rec rn fade n ch j k (lent v out) ≡ frames rec rn fade n ch j k (heard v.position ph out)
  known v ph j k out e = ap (λ (x : Phase). frames rec rn fade n ch j k (heard v.position x out)) e

  pub stays : (v : Voice) (j k : ℕ) (out : List Float) → v.phase ≡ Stopped → lent v out ≡ frames rec rn fade n ch j k (lent v out)
  stays v j k out e = ap (λ (x : Phase). heard v.position x out) e ∙ sym (stopped v.position j k out) ∙ sym (known v Stopped j k out e)

  -- ch Stopped voices
  still : (v : Voice) (vs : List Voice) (j k : ℕ) (out : List Float) → v.phase ≡ Stopped
      → mix rec rn fade n ch j k (v ∷ vs) out ≡ lent_all (v ∷ (mix rec rn fade n ch j k vs out).voices) (mix rec rn fade n ch j k vs out).out
  unfolding mix
  still v vs j k out e =
      ap (λ (h : Heard). lent_all (h.voice ∷ (mix rec rn fade n ch j k vs h.out).voices) (mix rec rn fade n ch j k vs h.out).out) (sym (stays v j k out e))

  pub both_stay : (v w : Voice) (j k : ℕ) (out : List Float) → is_stopped v.phase ≡ true → is_stopped w.phase ≡ true
      → lent_all (v ∷ w ∷ []) out ≡ mix rec rn fade n ch j k (v ∷ w ∷ []) out
  unfolding mix
  both_stay v w j k out a b =
      sym (still v (w ∷ []) j k out (is_stopped_lem v.phase a) ∙ ap (λ (m : Mixed). lent_all (v ∷ m.voices) m.out) (still w [] j k out (is_stopped_lem w.phase b)))
