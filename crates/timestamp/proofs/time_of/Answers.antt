-- `timestamp::time_of` meets its contract.
-- The idea: T of 2 ^ 40 frames at most fits (`T-fits`), so `from_seconds` does not refuse. Assumes nothing.
use Rattle.std.proofs.Common.{◌≡◌, ℕ, ◌^◌, ◌<◌, ◌≤◌, pos, ap, ◌∙◌, arith, le→leb}
use lib.Ieee.{binary64, div, of_int, in_float}
use Rattle.timestamp.specs.declared.rate.Rate.{Rate}
use Rattle.timestamp.specs.Answer.{taken, made, from_seconds}
use Rattle.timestamp.specs.Time.{time_of}
use Rattle.timestamp.proofs.Time.{T-fits}
use Rattle.timestamp.proofs.Told.{is_ok, is_time}
use Rattle.timestamp.proofs.time_of.Goals as goal

made_of : (R : Rate) (frames : ℕ) → frames ≤ 2 ^ 40 → from_seconds (div binary64 (of_int binary64 (pos frames)) (of_int binary64 (pos R.hertz))) ≡ taken (time_of R.hertz frames)
unfolding from_seconds
made_of R frames h =
    let r : 2 ^ 12 ≤ R.hertz = omega (arith, R.slow) in
    let r' : R.hertz < 2 ^ 18 = omega (arith, R.fast) in
    ap made (T-fits R.hertz frames r r' h)

pub int_to_float-frames : goal.int_to_float-frames
unfolding in_float
int_to_float-frames c =
    let h : c.args.frames ≤ 2 ^ 53 = omega (arith, c.requires) in
    le→leb _ _ h

pub unwrap-requires : goal.unwrap-requires
unwrap-requires c = is_ok c.from_seconds.result (time_of c.args.rate.hertz c.args.frames) (c.from_seconds.ensures ∙ made_of c.args.rate c.args.frames c.requires)

pub returns : goal.returns
returns c = is_time c.from_seconds.result c.unwrap.result (time_of c.args.rate.hertz c.args.frames) c.unwrap.ensures (c.from_seconds.ensures ∙ made_of c.args.rate c.args.frames c.requires)
