-- Laws of `sampler_event`. Bytes: a number from its bytes. UpTo: times and positions as natural numbers, and rule 12.
-- Answers: how an answer follows from a reading. Admissible: what an admissible event has passed, and that a command takes no other.
pub mod Bytes
pub mod UpTo
pub mod Answers
pub mod Admissible
