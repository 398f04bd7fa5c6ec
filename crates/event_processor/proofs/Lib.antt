-- Facts on the queue that the layers above cite, as `Rattle.event_processor.proofs.Pending.{pending_received}`.
-- Pending: what waits after each call, as a list. Kept: order, what holds of each event, and at most 16. Places: unused places that are blank stay so. Ordered: admissible events in order are at
-- natural numbers that do not fall.
pub mod Pending
pub mod Kept
pub mod Places
pub mod Ordered
-- Insert: where an event goes, and what that keeps. Front: the first event. Moves: an array whose elements move by one place.
pub mod Insert
pub mod Front
pub mod Moves
