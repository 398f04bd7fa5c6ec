-- What is added at different frames of the block commutes, so a piece doesn't see what other frames get.
-- The idea: ch places that differ are set in any order, and no frame's channel 0 is another's channel 1. Assumes nothing.
use Prim.Native.Nat.{ℕ, zero, suc, ◌+◌, ◌<◌, ◌≤◌}
use mathlib.Core.Path.{◌≡◌, refl, sym, ◌∙◌, ap}
use mathlib.Core.Bool.{Bool, true, false, cond}
use mathlib.Core.List.{List, [], ◌∷◌}
use native.Mathlib.Omega.{arith}
use lib.ListN.{length, get_or, set}
use lib.Seq.{set_comm, get_or-set_other}
use lib.Ieee.{Float, nan, binary32, add}
use Rattle.sampler_voice.specs.declared.Channels.{Channels}
use Rattle.sampler_voice.specs.declared.Pair.{Pair}
use Rattle.sampler_voice.specs.declared.Phase.{Phase}
use Rattle.sampler_voice.specs.declared.Voice.{Voice}
use Rattle.sampler_voice.specs.Sound.{both_mixed, entry, fetched, add_at, added}
use Rattle.sampler_voice.specs.Voices.{settled, next_phase, next_position, faded, Heard, Mixed, lent, lent_all, heard, sounded, frame, frames, mix}
use Rattle.sampler_voice.proofs.Audible.{audible, sounded_as}

add_comm : (i k : ℕ) (x y : Float) (out : List Float) → (i ≡ k → ⊥) → add_at i x (add_at k y out) ≡ add_at k y (add_at i x out)
add_comm i k x y out a =
    ap (λ (v : Float). set (add_at k y out) i (add binary32 v x)) (get_or-set_other out k i (add binary32 (get_or out k nan) y) nan a)
    ∙ set_comm out k i (add binary32 (get_or out k nan) y) (add binary32 (get_or out i nan) x) (λ e. a (sym e))
    ∙ ap (λ (v : Float). set (add_at i x out) k (add binary32 v y)) (sym (get_or-set_other out i k (add binary32 (get_or out i nan) x) nan (λ e. a (sym e))))

-- a pair added at frame j, by whether both channels are mixed
abbrev adds : Bool → ℕ → ℕ → ℕ → Pair → List Float → List Float
adds t c n j p out = cond t (add_at (entry c n 1 j) p.right (add_at (entry c n 0 j) p.left out)) (add_at (entry c n 0 j) p.left out)

adds_comm : (t : Bool) (c n i k : ℕ) (p q : Pair) (out : List Float) → i < n → k < n → (i ≡ k → ⊥)
    → adds t c n i p (adds t c n k q out) ≡ adds t c n k q (adds t c n i p out)
adds_comm true c n i k p q out l m a =
    let A = add_at (entry c n 0 i) p.left in
    let B = add_at (entry c n 1 i) p.right in
    let C = add_at (entry c n 0 k) q.left in
    let D = add_at (entry c n 1 k) q.right in
    ap B (add_comm (entry c n 0 i) (entry c n 1 k) p.left q.right (C out) (λ e. omega arith))
    ∙ ap (λ (o : List Float). B (D o)) (add_comm (entry c n 0 i) (entry c n 0 k) p.left q.left out (λ e. a (omega arith)))
    ∙ add_comm (entry c n 1 i) (entry c n 1 k) p.right q.right (C (A out)) (λ e. a (omega arith))
    ∙ ap D (add_comm (entry c n 1 i) (entry c n 0 k) p.right q.left (A out) (λ e. omega arith))
adds_comm false c n i k p q out l m a = add_comm (entry c n 0 i) (entry c n 0 k) p.left q.left out (λ e. a (omega arith))

added_comm : (n : ℕ) (ch : Channels) (i k : ℕ) (p q : Pair) (out : List Float) → i < n → k < n → (i ≡ k → ⊥)
    → added n ch i p (added n ch k q out) ≡ added n ch k q (added n ch i p out)
unfolding added
added_comm n ch i k p q out l m a = adds_comm (both_mixed ch) ch.output n i k p q out l m a

-- what is done or left out commutes where what is done does
maybe_comm : (a c : Bool) (f g : List Float → List Float) (out : List Float) → f (g out) ≡ g (f out)
    → cond a (f (cond c (g out) out)) (cond c (g out) out) ≡ cond c (g (cond a (f out) out)) (cond a (f out) out)
maybe_comm true true f g out h = h
maybe_comm true false f g out h = refl
maybe_comm false true f g out h = refl
maybe_comm false false f g out h = refl

module _ (rec : List Float) (rn : ℕ) (fade : List Float) (n : ℕ) (ch : Channels) where
  pub sounded_comm : (ph ps : Phase) (p q i k : ℕ) (out : List Float) → i < n → k < n → (i ≡ k → ⊥)
      → sounded rec rn fade n ch ph p i (sounded rec rn fade n ch ps q k out) ≡ sounded rec rn fade n ch ps q k (sounded rec rn fade n ch ph p i out)
  sounded_comm ph ps p q i k out l m a =
      let f = added n ch i (faded fade ph (fetched rec rn ch p)) in
      let g = added n ch k (faded fade ps (fetched rec rn ch q)) in
      simp (sounded_as rec rn fade n ch)
      (maybe_comm (audible rn ph p) (audible rn ps q) f g out (added_comm n ch i k (faded fade ph (fetched rec rn ch p)) (faded fade ps (fetched rec rn ch q)) out l m a))

  -- f changes the output only apart from the frames i to i + d: it commutes with what is added there
  abbrev pub Apart : ℕ → ℕ → (List Float → List Float) → Type 0
  Apart i d f =
      (ph : Phase) (p g : ℕ) (out : List Float) → i ≤ g → g < i + d → sounded rec rn fade n ch ph p g (f out) ≡ f (sounded rec rn fade n ch ph p g out)

  pub frames_apart : (i d : ℕ) (f : List Float → List Float) (w : Voice) (out : List Float) → Apart i d f
      → frames rec rn fade n ch i d (lent w (f out)) ≡ lent (frames rec rn fade n ch i d (lent w out)).voice (f (frames rec rn fade n ch i d (lent w out)).out)
  unfolding frames frame
  frames_apart i zero f w out h = refl
  frames_apart i (suc d) f w out h =
      let b = frames rec rn fade n ch i d (lent w out) in
      let s = settled (length fade) b.voice.phase in
      ap (frame rec rn fade n ch (i + d)) (frames_apart i d f w out (λ ph p g o l m. h ph p g o l (omega arith)))
      ∙ ap (heard (next_position s b.voice.position) (next_phase (length fade) s)) (h s b.voice.position (i + d) b.out (omega arith) (omega arith))

  pub mix_apart : (i d : ℕ) (f : List Float → List Float) (vs : List Voice) (out : List Float) → Apart i d f
      → mix rec rn fade n ch i d vs (f out) ≡ lent_all (mix rec rn fade n ch i d vs out).voices (f (mix rec rn fade n ch i d vs out).out)
  unfolding mix
  mix_apart i d f [] out h = refl
  mix_apart i d f (v ∷ vs) out h =
      let b = frames rec rn fade n ch i d (lent v out) in
      ap
      (λ (x : Heard). lent_all (x.voice ∷ (mix rec rn fade n ch i d vs x.out).voices) (mix rec rn fade n ch i d vs x.out).out)
      (frames_apart i d f v out h)
      ∙ ap (λ (m : Mixed). lent_all (b.voice ∷ m.voices) m.out) (mix_apart i d f vs b.out h)

  -- a later piece of a voice changes the output apart from the frames before it
  pub later_apart : (i d k e : ℕ) (w : Voice) → i + d ≤ k → k + e ≤ n → Apart i d (λ (o : List Float). (frames rec rn fade n ch k e (lent w o)).out)
  later_apart i d k e w l m ph p g out a b =
      sym (ap (λ (x : Heard). x.out) (frames_apart k e (sounded rec rn fade n ch ph p g) w out (λ ps q h o x y. sounded_comm ps ph q p h g o (omega arith) (omega arith) (λ z. omega arith))))
