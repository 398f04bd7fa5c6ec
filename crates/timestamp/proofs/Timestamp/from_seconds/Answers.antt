-- `timestamp::Timestamp::from_seconds` meets its contract.
-- The idea: one lemma of `Fixed.antt` for each way through the tests. Assumes nothing.
use Rattle.std.proofs.Common.{◌≡◌, ℕ, ◌^◌, ◌<◌, ◌≤◌, true, T, pos, neg_ℤ, sym, ap, ◌∙◌, subst, w64, SFits, rules}
use lib.Ieee.{Float, binary64, fits, neg, lt, le, of_bits}
use mir.ValLaws.{to_z_pos, to_z-of_z}
use Rattle.timestamp.specs.Answer.{taken}
use Rattle.laws.proofs.Tests.{yes, no}
use Rattle.timestamp.proofs.Fixed.{Up, Down, going_up, too_high, going_down, too_low, at_zero, at_nan}
use Rattle.timestamp.proofs.Timestamp.from_seconds.Goals as goal

high : (y : Float) → T (fits binary64 y) → lt (of_bits binary64 0) y ≡ true → lt y (of_bits binary64 0x41e0_0000_0000_0000) ≡ true → Up y
unfolding of_bits
high y F a b = going_up y F (yes a) (yes b)

low : (y : Float) → lt y (of_bits binary64 0) ≡ true → le (neg (of_bits binary64 0x41e0_0000_0000_0000)) y ≡ true → Down y
unfolding of_bits neg
low y a b = going_down y (yes a) (yes b)

pub to_units-n-requires : goal.to_units-n-requires
to_units-n-requires c =
    let h = high c.args.y (yes c.well_formed.0.1) c.if-y.true c.if-y-2.true in
    record { above_zero = h.0; below_limit = h.1 }

small : (k n : ℕ) → k ≡ n → n < 2 ^ 63 → k < 2 ^ 63
small k n e h = subst (λ (k : ℕ). k < 2 ^ 63) (sym e) h

pub overflow_cast-result : goal.overflow_cast-result
overflow_cast-result c = record { sfits = small _ _ c.to_units-n.ensures (high c.args.y (yes c.well_formed.0.1) c.if-y.true c.if-y-2.true).2 }

pub to_units-requires : goal.to_units-requires
to_units-requires c =
    let h = low c.args.y c.if-y-3.true c.if-y-4.true in
    record { above_zero = h.0; below_limit = h.1 }

pub negative-n-requires : goal.negative-n-requires
negative-n-requires c = subst (λ (k : ℕ). k ≤ 2 ^ 63) (sym c.to_units.ensures) (low c.args.y c.if-y-3.true c.if-y-4.true).2

pub returns-then-y-2 : goal.returns-then-y-2
returns-then-y-2 c =
    let h = high c.args.y (yes c.well_formed.0.1) c.if-y.true c.if-y-2.true in
    ap taken (to_z_pos w64 c.to_units-n.result (small _ _ c.to_units-n.ensures h.2) ∙ ap pos c.to_units-n.ensures) ∙ sym h.3

pub returns-else-y-2 : goal.returns-else-y-2
unfolding of_bits neg
returns-else-y-2 c = too_high c.args.y (yes c.if-y.true) (no c.if-y-2.false)

pub returns-then-y-4 : goal.returns-then-y-4
returns-then-y-4 c =
    let fit : SFits w64 c.negative-n.result = search rules in
    ap taken (to_z-of_z w64 c.negative-n.result fit ∙ c.negative-n.ensures ∙ ap (λ (k : ℕ). neg_ℤ (pos k)) c.to_units.ensures) ∙ sym (low c.args.y c.if-y-3.true c.if-y-4.true).3

pub returns-else-y-4 : goal.returns-else-y-4
unfolding of_bits neg
returns-else-y-4 c = too_low c.args.y (yes c.well_formed.0.1) (yes c.if-y-3.true) (no c.if-y-4.false)

pub returns-then-not-is_nan : goal.returns-then-not-is_nan
unfolding of_bits
returns-then-not-is_nan c = at_zero c.args.y (no c.if-y.false) (no c.if-y-3.false) (no (sym c.is_nan.ensures.value ∙ c.if-not-is_nan.true))

pub returns-else-not-is_nan : goal.returns-else-not-is_nan
returns-else-not-is_nan c = at_nan c.args.y (yes (sym c.is_nan.ensures.value ∙ c.if-not-is_nan.false))
