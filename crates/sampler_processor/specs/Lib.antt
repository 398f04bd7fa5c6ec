-- The leg, under document 01's headings and in its order. Numbers: "Numbers a call may answer", the damaged leg among them. Block: "One block". Calls: making, a command, a render. AtFrames: the
-- "Proved consequence" of "One block", said of a render.
pub mod Numbers
pub mod Block
pub mod Calls
pub mod AtFrames
-- inner: what only the contracts of inner functions cite, and nobody has to believe.
pub mod inner
