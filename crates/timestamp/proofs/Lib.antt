-- Facts on T and S for callers to cite, as `Rattle.timestamp.proofs.Time.{T-once}`, over every rate R in range (most for 0 < R < 2 ^ 18).
-- Values: what a float is as a time and as whole frames. Time: T-once, T-near, T-wide, T-fits. Frames: S-exact, S-floor, S-round, S-near, S-T (back again), S-below.
pub mod Values
pub mod Time
pub mod Frames
-- Loop: E in whole numbers (E-exact), and late beyond (E-late). Fade: the fade length is the ceiling that document 01 asks for.
pub mod Loop
pub mod Fade
-- Drift: a sum of T against its frames. Event: an event's frame in a block. Interval: the frames of a piece in whole numbers.
pub mod Drift
pub mod Event
pub mod Interval
-- How the code meets the definitions. Told: an answer that is no refusal. Counts: cut and rounded frames. Fixed: seconds to units.
pub mod Told
pub mod Counts
pub mod Fixed
