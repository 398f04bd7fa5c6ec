-- Demand 3. Run: a run, its pieces and events, and the drift bound. Whole: the same run in "whole-frame arithmetic", and the budget within which it is the leg's.
pub mod Run
pub mod Whole
