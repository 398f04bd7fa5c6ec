-- Facts on numbers and floats that several crates cite, as `Rattle.laws.proofs.Near.{closest_near}`.
-- Near: the nearest natural number to a fraction. Minus: an integer as a difference of natural numbers, which `omega` reads. Tests: a test's answer as a fact.
pub mod Near
pub mod Minus
pub mod Tests
-- Rules: what it says that a call is not refused.
pub mod Rules
-- Round: what `round` does to a fraction, in whole numbers. Operations: the operations on floats by fractions. Fit: values that a format has. Whole: the nearest whole
-- number by one sum with 2 ^ 52. Error: several roundings.
pub mod Round
pub mod Operations
pub mod Fit
pub mod Whole
pub mod Error
-- Bounds, RangeTests: floats of bounded size. NoNan: sums that are no NaN.
pub mod Bounds
pub mod RangeTests
pub mod NoNan
-- Refusals: a number tells its refusal, and none is 0.
pub mod Refusals
