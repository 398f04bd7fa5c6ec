-- Laws about the definitions of what plays, for the code's proofs and for crates above to cite, as `Rattle.sampler_player.proofs.Assign.{assign_twice}`.
-- Assign: Assign twice is once, and what it leaves. Fuel: passes end, more fuel changes nothing, and what a loop over passes carries. Passes: what one pass is.
pub mod Assign
pub mod Fuel
pub mod Passes
-- Kept: the invariant taken apart and put together. Catch, Due, Target: when a pass catches up, and up to which number of loops (Reaching: quotients).
-- Stroke: all catch-ups at one stroke.
pub mod Kept
pub mod Catch
pub mod Reaching
pub mod Due
pub mod Target
pub mod Stroke
-- Held, Voice, Voices: the active voice and the voices' limits. Assigned: Stop and Assign keep the invariant. Pass: one pass does. Enough: a segment does, and ends.
-- CatchUps: "Passes that only catch up stay below 2^27".
pub mod Held
pub mod Voice
pub mod Voices
pub mod Assigned
pub mod Pass
pub mod Enough
pub mod CatchUps
-- NoNan: no entry becomes a NaN. Trace: what a segment reports. Applied: events keep the invariant. Sound: from number 14 to the invariant and back.
pub mod NoNan
pub mod Trace
pub mod Applied
pub mod Sound
-- How the code meets the definitions. First: the first stopped voice. Sized: sums of times that fit. Ends, Gap: E and the interval in whole numbers. Span: a loop in numbers.
-- Turn: one turn of the piece loop. Counting: a segment's pieces count on from those before it.
pub mod First
pub mod Sized
pub mod Ends
pub mod Gap
pub mod Span
pub mod Turn
pub mod Counting
