-- What is told as a time is that time, for a caller that knows that the call does not refuse.
-- The idea: a refusal's number is not 0. Assumes nothing.
use Rattle.std.proofs.Common.{◌≡◌, ℤ, sym, refl, ap, ◌∙◌}
use Rattle.std.specs.Prelude.{Result, Ok, Err}
use Rattle.std.specs.Result.{IsOk}
use Rattle.laws.specs.declared.Refusal.{Refusal}
use Rattle.laws.proofs.Refusals.{not_zero}
use Rattle.timestamp.specs.declared.Timestamp.{Timestamp}
use Rattle.timestamp.specs.Answer.{TimeAnswer, told, taken}

pub is_ok : (r : Result Timestamp Refusal) (z : ℤ) → told r ≡ taken z → IsOk r
is_ok (Ok t) z h = refl
is_ok (Err e) z h = absurd (not_zero e (ap (λ (a : TimeAnswer). a.number) h))

pub is_time : (r : Result Timestamp Refusal) (t : Timestamp) (z : ℤ) → r ≡ Ok t → told r ≡ taken z → t.bits ≡ z
is_time r t z e h = ap (λ (a : TimeAnswer). a.time.bits) (ap told (sym e) ∙ h)
