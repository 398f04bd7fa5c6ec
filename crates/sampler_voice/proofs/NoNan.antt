-- No entry of an output becomes a NaN, whatever is mixed into it.
-- The idea: what is added is finite, and a sum with a finite value is a NaN only where the other is one. Assumes nothing.
use Prim.Native.Nat.{ℕ, zero, suc, ◌+◌, ◌<◌}
use mathlib.Core.Path.{◌≡◌, refl, sym, subst}
use mathlib.Core.Bool.{Bool, true, false, cond}
use mathlib.Core.List.{List, [], ◌∷◌}
use lib.Dec.{eqb}
use lib.ListN.{length, get_or, length-set}
use lib.Seq.{get_or-set_same, get_or-set_other}
use lib.Ieee.{Float, nan, add, binary32}
use borrow.Author.Tests.{eqb-true, eqb-false}
use Rattle.sampler_voice.specs.declared.Channels.{Channels}
use Rattle.sampler_voice.specs.declared.Pair.{Pair}
use Rattle.sampler_voice.specs.declared.Phase.{Phase}
use Rattle.sampler_voice.specs.declared.Voice.{Voice}
use Rattle.sampler_voice.specs.Sound.{both_mixed, entry, fetched, add_at, added}
use Rattle.sampler_voice.specs.Voices.{Heard, settled, faded, lent, sounded, frame, frames, mix}
use Rattle.sampler_voice.proofs.Audible.{audible, sounded_as}
use Rattle.laws.proofs.Bounds.{AtMost}
use Rattle.laws.proofs.NoNan.{Number, add_number}
use Rattle.sampler_voice.proofs.SmallPair.{Most, fetched_most, faded_most}

-- each entry is a number
abbrev pub Numbers : List Float → Type 0
Numbers out = (i : ℕ) → i < length out → Number (get_or out i nan)

-- ---- an entry, a pair, a frame
add_at_numbers : (e : ℕ) (x : Float) (out : List Float) → AtMost 16 x → Numbers out → Numbers (add_at e x out)
add_at_numbers e x out k h i l = go (eqb i e) refl
  where
    inside : i < length out
    inside = subst (λ (z : ℕ). i < z) (length-set out e (add binary32 (get_or out e nan) x)) l

    go : (t : Bool) → eqb i e ≡ t → Number (get_or (add_at e x out) i nan)
    go true g =
        subst (λ (z : ℕ). Number (get_or (add_at z x out) i nan)) (eqb-true i e g)
        (subst Number (sym (get_or-set_same out i (add binary32 (get_or out i nan) x) nan inside)) (add_number binary32 16 (get_or out i nan) x (h i inside) k))
    go false g = subst Number (sym (get_or-set_other out e i (add binary32 (get_or out e nan) x) nan (eqb-false i e g))) (h i inside)

added_numbers : (n : ℕ) (ch : Channels) (j : ℕ) (q : Pair) (out : List Float) → Most q → Numbers out → Numbers (added n ch j q out)
unfolding added
added_numbers n ch j q out k h = go (both_mixed ch)
  where
    left : Numbers (add_at (entry ch.output n 0 j) q.left out)
    left = add_at_numbers (entry ch.output n 0 j) q.left out k.0 h

    go : (t : Bool) → Numbers (cond t (add_at (entry ch.output n 1 j) q.right (add_at (entry ch.output n 0 j) q.left out)) (add_at (entry ch.output n 0 j) q.left out))
    go true = add_at_numbers (entry ch.output n 1 j) q.right (add_at (entry ch.output n 0 j) q.left out) k.1 left
    go false = left

module _ (rec : List Float) (rn : ℕ) (fade : List Float) (n : ℕ) (ch : Channels) where
  sounded_numbers : (ph : Phase) (p j : ℕ) (out : List Float) → Numbers out → Numbers (sounded rec rn fade n ch ph p j out)
  sounded_numbers ph p j out h = subst Numbers (sym (sounded_as rec rn fade n ch ph p j out)) (go (audible rn ph p))
    where
      go : (t : Bool) → Numbers (cond t (added n ch j (faded fade ph (fetched rec rn ch p)) out) out)
      go true = added_numbers n ch j (faded fade ph (fetched rec rn ch p)) out (faded_most fade ph (fetched rec rn ch p) (fetched_most rec rn ch p)) h
      go false = h

  -- ---- a piece
  frames_numbers : (j k : ℕ) (x : Heard) → Numbers x.out → Numbers (frames rec rn fade n ch j k x).out
  unfolding frames frame
  frames_numbers j zero x h = h
  frames_numbers j (suc k) x h =
      let y = frames rec rn fade n ch j k x in
      sounded_numbers (settled (length fade) y.voice.phase) y.voice.position (j + k) y.out (frames_numbers j k x h)

  pub mix_numbers : (j k : ℕ) (vs : List Voice) (out : List Float) → Numbers out → Numbers (mix rec rn fade n ch j k vs out).out
  unfolding mix
  mix_numbers j k [] out h = h
  mix_numbers j k (v ∷ vs) out h = mix_numbers j k vs (frames rec rn fade n ch j k (lent v out)).out (frames_numbers j k (lent v out) h)
