-- The next step from its parts: what its calls make of the leg, and what its byte says.
-- The idea: a leg that a call hands back follows; where the byte was held before the buffer was filled, nothing moved. Assumes nothing.
use Rattle.std.proofs.Common.{◌≡◌, ℕ, ◌≤◌, List, ℤ, sym, ◌∙◌, subst, ap₂}
use lib.Ieee.{Float}
use Rattle.buffered.specs.declared.input.Input.{Input}
use Rattle.buffered.specs.Input.{held, number_at, Filled}
use Rattle.sampler_processor.specs.declared.Leg.{Leg}
use Rattle.sampler_player.specs.Pieces.{Lent}
use Rattle.sampler_processor.specs.Calls.{LegAnswer, submit, Rendered, render}
use Rattle.trial_steps.specs.Follows.{Follows, told, rendered, once_more, Next}

-- ---- what `submit` and `render` hand back

pub told_to : (l : Leg) (bytes : List ℕ) (a : LegAnswer) → a ≡ submit l bytes → Follows l 1 a.leg
told_to l bytes a e = subst (λ (x : LegAnswer). Follows l 1 x.leg) (sym e) (told bytes)

pub rendered_by : (l : Leg) (b : Lent) (xs : List Float) (start : ℤ) (r : Rendered) → r ≡ render l b xs start → Follows l 2 r.answer.leg
rendered_by l b xs start r e = subst (λ (x : Rendered). Follows l 2 x.answer.leg) (sym e) (rendered b xs start)

pub rendered_again : (l m : Leg) (b : Lent) (xs : List Float) (start : ℤ) (r : Rendered) → r ≡ render m b xs start → Follows l 4 m → Follows l 4 r.answer.leg
rendered_again l m b xs start r e f = subst (λ (x : Rendered). Follows l 4 x.answer.leg) (sym e) (once_more b xs start f)

-- ---- the step's byte

-- k is what the byte says, where it was held before the buffer was filled
pub says : (s t : List ℕ) (i j : Input) (k n : ℕ) → n ≡ k → n ≡ number_at t j 0 1 → Filled 1 s i t j → 1 ≤ held i → k ≡ number_at s i 0 1
says s t i j k n is read f h =
    sym is ∙ read ∙ ap₂ (λ (x : List ℕ) (y : Input). number_at x y 0 1) (f.at_once h).0 (f.at_once h).1

pub next : (s t : List ℕ) (i j : Input) (a r : Leg) (k n : ℕ) → Filled 1 s i t j → n ≡ number_at t j 0 1 → n ≡ k → Follows a k r → Next s i a r
next s t i j a r k n f read is h = record { kind = k; follows = h; byte = says s t i j k n is read f }
