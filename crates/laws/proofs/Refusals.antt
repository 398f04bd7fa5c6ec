-- A refusal's number is one of document 01's, never 0, and tells which refusal it is.
-- The idea: `refusal_at` goes back from the number, case by case. Assumes nothing.
use Rattle.std.proofs.Common.{◌≡◌, ℕ, ◌<◌, T, [], ◌∷◌, ltb, get_or, sym, ap, ◌∙◌, refl, subst, ltb→lt, lt_irrefl}
use Rattle.laws.specs.declared.Refusal.{Refusal}
use Rattle.laws.specs.declared.Refusal.TheVariants.{Rate, Channels, Recording, FadeTable, Block, Output, BlockStart, TooFar, QueueFull, EventTime, Position, LoopShort, Record, Damaged, NoResult}
use Rattle.laws.specs.Rules.{number_of}

-- in the order of their numbers; nothing has 0
abbrev refusal_at : ℕ → Refusal
refusal_at n = get_or (NoResult ∷ Rate ∷ Channels ∷ Recording ∷ FadeTable ∷ Block ∷ Output ∷ BlockStart ∷ TooFar ∷ QueueFull ∷ EventTime ∷ Position ∷ LoopShort ∷ Record ∷ Damaged ∷ NoResult ∷ []) n NoResult

back : (r : Refusal) → refusal_at (number_of r) ≡ r
back Rate = refl
back Channels = refl
back Recording = refl
back FadeTable = refl
back Block = refl
back Output = refl
back BlockStart = refl
back TooFar = refl
back QueueFull = refl
back EventTime = refl
back Position = refl
back LoopShort = refl
back Record = refl
back Damaged = refl
back NoResult = refl

-- two refusals of one number are one
pub one_refusal : (r s : Refusal) → number_of r ≡ number_of s → r ≡ s
one_refusal r s h = sym (back r) ∙ ap refusal_at h ∙ back s

above_zero : (r : Refusal) → T (ltb 0 (number_of r))
above_zero Rate = tt
above_zero Channels = tt
above_zero Recording = tt
above_zero FadeTable = tt
above_zero Block = tt
above_zero Output = tt
above_zero BlockStart = tt
above_zero TooFar = tt
above_zero QueueFull = tt
above_zero EventTime = tt
above_zero Position = tt
above_zero LoopShort = tt
above_zero Record = tt
above_zero Damaged = tt
above_zero NoResult = tt

-- 0 is no refusal's
pub not_zero : (r : Refusal) → number_of r ≡ 0 → ⊥
not_zero r h = lt_irrefl 0 (subst (λ (n : ℕ). 0 < n) h (ltb→lt 0 (number_of r) (above_zero r)))
