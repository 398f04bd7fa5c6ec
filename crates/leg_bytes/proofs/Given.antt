-- A value that is given only where a test holds.
-- The idea: the two cases of the test. Assumes nothing.
use Rattle.std.proofs.Common.{◌≡◌, Bool, true, false, None, Some, refl, sym}
use Rattle.std.proofs.lemmas.Option.{none-some, same_Some}
use Rattle.std.specs.Bool.{then_some}

-- it is there: the test held, and it is the value
pub there : {A : Type 0} (b : Bool) (x y : A) → Some y ≡ then_some b x → (b ≡ true) × (x ≡ y)
there true x y e = (refl, sym (same_Some y x e))
there false x y e = absurd (none-some y (sym e))

-- it is not: the test failed
pub not_there : {A : Type 0} (b : Bool) (x : A) → None ≡ then_some b x → b ≡ false
not_there true x e = absurd (none-some x e)
not_there false x e = refl
