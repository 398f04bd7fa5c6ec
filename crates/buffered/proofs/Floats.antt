-- Floats read from the file, one more at a turn.
-- The idea: as long as their bytes were held at the start nothing is read, so each is the float of its four bytes there. Assumes nothing.
use Rattle.std.proofs.Common.{◌≡◌, ℕ, ◌+◌, ◌*◌, ◌%◌, ◌^◌, ◌<◌, ◌≤◌, List, length, take, set, refl, ap, ◌∙◌, inl, inr, le_refl, eq-or-lt_of_le, add-one, arith, take-suc-set}
use Rattle.std.proofs.lemmas.Bool.{cases_lt}
use lib.Seq.{take-set-le}
use lib.Ieee.{Float}
use Rattle.buffered.specs.declared.input.Input.{Input}
use Rattle.buffered.specs.Input.{held, place, passed_by, Filled, float_at, floats_at}
use Rattle.buffered.proofs.Refill.{none}

-- n bytes further on
abbrev pub stepped : ℕ → Input → Input
stepped n i = record { at = i.at + n; end = i.end; gone = i.gone }

-- what holds after k floats: s and i are the buffer and where reading stood before, t and r now
pub record Upto (s : List ℕ) (i : Input) (t : List ℕ) (r : Input) (xs : List Float) (k : ℕ) : Type 0 where
  pub now_at : place r ≡ (place i + 4 * k) % 2 ^ 64
  pub still : 4 * k ≤ held i → (t ≡ s) × (r ≡ stepped (4 * k) i)
  pub floats : (j : ℕ) → j ≤ k → 4 * j ≤ held i → take j xs ≡ floats_at s i.at j

same_input : {a b e g : ℕ} → a ≡ b → ◌≡◌ {A = Input} (record { at = a; end = e; gone = g }) (record { at = b; end = e; gone = g })
same_input {e = e} {g = g} p = ap (λ (x : ℕ). record { at = x; end = e; gone = g }) p

pub none_yet : (s : List ℕ) (i : Input) (xs : List Float) → Upto s i s i xs 0
none_yet s i xs =
    record {
      now_at = omega arith;
      still = λ _. (refl, same_input (omega arith));
      floats = λ j h _. let z : j ≡ 0 = omega (arith, h) in rw z refl;
    }

module _ (s : List ℕ) (i : Input) (t u : List ℕ) (r q : Input) (xs : List Float) (k : ℕ) (o : Upto s i t r xs k) (f : Filled 4 t r u q) where
  -- where the next four bytes were held at the start, they still are, and nothing was read
  pub stays : 4 * (k + 1) ≤ held i → (u ≡ s) × (q ≡ stepped (4 * k) i)
  stays h =
      let l : 4 * k ≤ held i = omega arith in
      let e = (o.still l).1 in
      let w : 4 ≤ held r = rw e (omega (arith, h)) in
      let g = f.at_once w in
      (g.0 ∙ (o.still l).0, g.1 ∙ e)

  pub short : held q < 4 → held i < 4 * (k + 1)
  short h = elim (cases_lt (held i) (4 * (k + 1))) [
    | inl l ↦ l
    | inr l ↦ let w : 4 ≤ held q = rw (stays l).1 (omega (arith, l)) in absurd (none h w)
  ]

  pub one_more : 4 ≤ held q → k < length xs → Upto s i u (passed_by 4 q) (set xs k (float_at u q.at)) (k + 1)
  one_more w b =
      record {
        now_at = let p = f.same_place ∙ o.now_at in omega arith;
        still = λ h. let e = stays h in (e.0, rw e.1 (same_input (omega (arith, h))));
        floats = λ j h l. elim (eq-or-lt_of_le h) [
          | inl z ↦
              let m : 4 * (k + 1) ≤ held i = rw z at l in
              let e = stays m in
              rw (z, add-one, take-suc-set xs k _ b, e.0, e.1, o.floats k (le_refl k) (omega (arith, m))) refl
          | inr z ↦ take-set-le j xs k _ (omega (arith, z)) ∙ o.floats j (omega (arith, z)) l
        ];
      }
