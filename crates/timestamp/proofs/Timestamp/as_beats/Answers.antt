-- `timestamp::Timestamp::as_beats` meets its contract.
-- The idea: 60.0 is 60 as a float; the tests are the definition's. Assumes nothing.
use Rattle.std.proofs.Common.{◌≡◌, true, ℤ, pos, sym, refl, ap, ◌∙◌, rules}
use Rattle.std.specs.Float.{float_is_finite}
use lib.Ieee.{Float, nan, inf, fin, binary64, mul, div, of_bits, of_int, round}
use lib.Ieee.Positive.{positive}
use lib.Ieee.Scale.{finite}
use Rattle.timestamp.specs.Time.{seconds, frequency}
use Rattle.timestamp.specs.Answer.{as_beats}
use Rattle.timestamp.proofs.Timestamp.as_beats.Goals as goal

sixty : of_bits binary64 0x404e_0000_0000_0000 ≡ of_int binary64 (pos 60)
unfolding of_bits of_int round
sixty = refl

-- the beats, as the definition has them
beats : (z : ℤ) (tempo y : Float) → y ≡ seconds z → mul binary64 y (div binary64 tempo (of_bits binary64 0x404e_0000_0000_0000)) ≡ mul binary64 (seconds z) (frequency tempo)
unfolding frequency
beats z tempo y h =
    ap (λ (x : Float). mul binary64 x (div binary64 tempo (of_bits binary64 0x404e_0000_0000_0000))) h
    ∙ ap (λ (x : Float). mul binary64 (seconds z) (div binary64 tempo x)) sixty

finite_same : (x : Float) → float_is_finite x ≡ finite x
unfolding float_is_finite
finite_same nan = refl
finite_same (inf s) = refl
finite_same (fin s m e) = refl

pub returns : goal.returns
unfolding as_beats
returns c =
    let e = beats c.args.self.bits c.args.tempo c.to_seconds.result (search rules) in
    let t : positive c.args.tempo ≡ true = sym c.above_zero.ensures ∙ c.if-not-above_zero.false in
    let u = sym (finite_same _) ∙ sym c.is_finite.ensures.value ∙ c.if-not-is_finite.false in
    simp (t, ← e, u)

pub returns-then-not-is_finite : goal.returns-then-not-is_finite
unfolding as_beats of_bits
returns-then-not-is_finite c =
    let e = beats c.args.self.bits c.args.tempo c.to_seconds.result (search rules) in
    let t : positive c.args.tempo ≡ true = sym c.above_zero.ensures ∙ c.if-not-above_zero.false in
    let u = sym (finite_same _) ∙ sym c.is_finite.ensures.value ∙ c.if-not-is_finite.true in
    simp (t, ← e, u)

pub returns-then-not-above_zero : goal.returns-then-not-above_zero
unfolding as_beats of_bits
returns-then-not-above_zero c = simp (sym c.above_zero.ensures ∙ c.if-not-above_zero.true)
