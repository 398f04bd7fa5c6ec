-- Two results that a contract allows coincide. Every contract of `make`, `sound`, `submit` and `render` says that what the result tells, with the output, is a definition's value (`settled`), and an answer is known by what it tells.
-- The idea: both are that value; a refusal's number is never 0, and no two refusals have one number. Assumes nothing.
use mathlib.Core.Path.{◌≡◌, sym, ap, ap₂, ◌∙◌}
use Rattle.std.specs.Prelude.{Result, Ok, Err}
use Rattle.laws.specs.declared.Refusal.{Refusal}
use Rattle.laws.specs.declared.Refused.{Refused}
use Rattle.laws.proofs.Refusals.{not_zero, one_refusal}
use Rattle.sampler_processor.specs.declared.Leg.{Leg}
use Rattle.sampler_processor.specs.declared.Rendered as code
use Rattle.sampler_processor.specs.Calls.{LegAnswer, RenderAnswer, told, told_render}

pub settled : {A B : Type 0} (definition : A → B) (given : A) (r s : B) → r ≡ definition given → s ≡ definition given → r ≡ s
settled definition given r s p q = p ∙ sym q

-- two answers that tell the same are one
pub told_one : (r s : Result Leg (Refused Leg)) → told r ≡ told s → r ≡ s
told_one (Ok l) (Ok m) h = ap (λ (a : LegAnswer). Ok a.leg) h
told_one (Ok l) (Err s) h = absurd (not_zero s.refusal (sym (ap (λ (a : LegAnswer). a.number) h)))
told_one (Err r) (Ok m) h = absurd (not_zero r.refusal (ap (λ (a : LegAnswer). a.number) h))
told_one (Err r) (Err s) h =
    ap₂ (λ (a : Refusal) (l : Leg). Err (record { refusal = a; kept = l })) (one_refusal r.refusal s.refusal (ap (λ (a : LegAnswer). a.number) h)) (ap (λ (a : LegAnswer). a.leg) h)

pub told_render_one : (r s : Result code.Rendered (Refused Leg)) → told_render r ≡ told_render s → r ≡ s
told_render_one (Ok x) (Ok y) h = ap (λ (a : RenderAnswer). Ok (record { leg = a.leg; pieces = a.pieces })) h
told_render_one (Ok x) (Err s) h = absurd (not_zero s.refusal (sym (ap (λ (a : RenderAnswer). a.number) h)))
told_render_one (Err r) (Ok y) h = absurd (not_zero r.refusal (ap (λ (a : RenderAnswer). a.number) h))
told_render_one (Err r) (Err s) h =
    ap₂ (λ (a : Refusal) (l : Leg). Err (record { refusal = a; kept = l })) (one_refusal r.refusal s.refusal (ap (λ (a : RenderAnswer). a.number) h)) (ap (λ (a : RenderAnswer). a.leg) h)
