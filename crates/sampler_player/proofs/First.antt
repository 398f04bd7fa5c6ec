-- The first voice that passes the code's test is the definition's, `first_stopped`, of any number of voices.
-- The idea: both go over the list from its front. Assumes nothing.
use Prim.Native.Nat.{ℕ, suc}
use native.Mathlib.Omega.{arith}
use mathlib.Core.Path.{◌≡◌, refl, ap, ◌∙◌}
use mathlib.Core.Bool.{Bool, true, false, cond}
use mathlib.Core.List.{List, [], ◌∷◌}
use Prim.Native.Nat.compare
use lib.Dec.{ltb}
use lib.ListN.{length}
use borrow.Author.Tests.{lt-ltb}
use Rattle.std.proofs.Math.Numerals.{one-add}
use Rattle.std.specs.Prelude.{Option, Some, None}
use Rattle.std.specs.List.{position_or_len}
use Rattle.sampler_voice.specs.declared.Voice.{Voice}
use Rattle.sampler_voice.specs.Voices.{is_stopped}
use Rattle.sampler_player.specs.Assign.{one_more, first_stopped}

abbrev stopped : Voice → Bool
stopped v = is_stopped v.phase

later : (n : ℕ) (t : Bool) → cond t (Some (suc n)) None ≡ one_more (cond t (Some n) None)
later n true = refl
later n false = refl

abbrev pub found : List Voice → Option ℕ
found vs = cond (ltb (position_or_len stopped vs) (length vs)) (Some (position_or_len stopped vs)) None

first_on : (v : Voice) (vs : List Voice) (t : Bool) → is_stopped v.phase ≡ t → found vs ≡ first_stopped vs → found (v ∷ vs) ≡ first_stopped (v ∷ vs)
first_on v vs true e h = let t : ltb 0 (suc (length vs)) ≡ true = lt-ltb 0 (suc (length vs)) (omega arith) in rw (e, t) refl
first_on v vs false e h = rw e (rw (one-add, compare.suc-suc) (later (position_or_len stopped vs) (ltb (position_or_len stopped vs) (length vs)) ∙ ap one_more h))

pub first_found : (vs : List Voice) → found vs ≡ first_stopped vs
first_found [] = refl
first_found (v ∷ vs) = first_on v vs (is_stopped v.phase) refl (first_found vs)
