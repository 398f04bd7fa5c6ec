-- What the contracts of `sampler_event` cite. Events: kinds and events. Record: what 26 bytes are read as, and number 13. Limits: numbers 10, 11
-- and 12, and admissible events. Command: what a record is answered with.
pub mod Events
pub mod Record
pub mod Limits
pub mod Command
