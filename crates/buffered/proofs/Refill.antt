-- What `fill` leaves, where it reads and where it does not.
-- The idea: the bytes that are held are moved to the front, and the read leaves them there. Assumes nothing.
use Rattle.std.proofs.Common.{◌≡◌, ℕ, ◌+◌, ◌-◌, ◌<◌, ◌≤◌, min, List, length, take, drop, sym, refl, ap, ◌∙◌, inl, inr, le_refl, zero-add, arith, length-drop, drop_of_length-le, take-take}
use Rattle.std.proofs.lemmas.Bool.{cases_lt}
use lib.Seq.{paste, take-paste}
use Rattle.buffered.specs.declared.input.Input.{Input}
use Rattle.buffered.specs.Input.{held, place, Filled}

pub none : {a b : ℕ} → a < b → b ≤ a → ⊥
none h l = omega arith

pub as_it_is : (n : ℕ) (s : List ℕ) (i : Input) → n ≤ held i → Filled n s i s i
as_it_is n s i h =
    record {
      same_place = refl;
      kept = take-take (held i) (held i) (drop i.at s) (le_refl (held i));
      at_once = λ _. (refl, refl);
      ended = λ l _. absurd (none l h);
    }

-- past the end there is nothing
clamped : (s : List ℕ) (at : ℕ) → length s ≡ 65536 → drop (min at 65536) s ≡ drop at s
clamped s at e = elim (cases_lt at 65536) [
  | inl h ↦ let m : min at 65536 ≡ at = omega arith in ap (λ (k : ℕ). drop k s) m
  | inr h ↦
      let m : min at 65536 ≡ 65536 = omega arith in
      ap (λ (k : ℕ). drop k s) m ∙ drop_of_length-le s {i = 65536} (omega arith) ∙ sym (drop_of_length-le s {i = at} (omega arith))
]

module _ (n : ℕ) (s t : List ℕ) (i : Input) (more gone : ℕ) (e : length s ≡ 65536) where
  read_on : held i < n → held i + more ≤ 65536 → gone ≡ place i
      → take (held i) t ≡ take (held i) (paste s 0 (drop (min i.at 65536) s) (held i))
      → Filled n s i t (record { at = 0; end = held i + more; gone = gone })
  read_on l m g k =
      record {
        same_place = rw g (omega arith);
        kept =
            let b : held i ≤ min (held i + more) 65536 - 0 = omega arith in
            let d : held i ≤ length (drop (min i.at 65536) s) = simp length-drop (omega arith) in
            take-take (held i) (min (held i + more) 65536 - 0) t b ∙ k
            ∙ ap (λ (j : ℕ). take j (paste s 0 (drop (min i.at 65536) s) (held i))) (sym (zero-add (held i)))
            ∙ take-paste s 0 (drop (min i.at 65536) s) (held i) (omega arith) d
            ∙ ap (λ (r : List ℕ). take (held i) r) (clamped s i.at e);
        at_once = λ h. absurd (none l h);
        ended = λ h w. (refl, omega (arith, h, w));
      }

-- the same, of the numbers as the code has them
pub refilled : (n : ℕ) (s t : List ℕ) (i : Input) (at kept more gone : ℕ) → length s ≡ 65536 → at ≡ min i.at 65536 → kept ≡ held i → held i < n
    → kept + more ≤ 65536 → gone ≡ place i → take kept t ≡ take kept (paste s 0 (drop at s) kept)
    → Filled n s i t (record { at = 0; end = kept + more; gone = gone })
refilled n s t i at kept more gone e a k l m g h =
    let m₂ = rw k at m in
    let h₂ = rw (k, a) at h in
    rw k (read_on n s t i more gone e l m₂ g h₂)
