-- An order of rules from its front: its first rule's number is given, or the call goes on to the rest; and what it says that no rule is broken.
-- The idea: the test that the code made is the rule's, and a number above 0 is not the answer 0. Assumes nothing.
use Prim.Native.Nat.{ℕ, suc}
use mathlib.Core.Path.{◌≡◌, refl, sym, ◌∙◌}
use mathlib.Core.Bool.{Bool, true, false}
use mathlib.Core.List.{List, ◌∷◌}
use native.Mathlib.Omega.{arith}
use Rattle.laws.specs.Rules.{Rule, rule, first_broken}

module _ (n : ℕ) (rs : List Rule) {b t : Bool} (e : t ≡ b) where
  pub given : t ≡ true → first_broken (rule n b ∷ rs) ≡ n
  given h = rw (sym e ∙ h) refl

  pub passed : t ≡ false → first_broken (rule n b ∷ rs) ≡ first_broken rs
  passed h = rw (sym e ∙ h) refl

-- where nothing is refused, neither the first rule refuses nor the rest
pub held : (n : ℕ) (b : Bool) (rs : List Rule) → first_broken (rule (suc n) b ∷ rs) ≡ 0 → (b ≡ false) × (first_broken rs ≡ 0)
held n true rs z = absurd (omega arith)
held n false rs z = (refl, z)
