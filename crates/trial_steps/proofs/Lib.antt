-- Stepped: what the calls of a step make of the leg, and what its byte says.
pub mod Stepped
