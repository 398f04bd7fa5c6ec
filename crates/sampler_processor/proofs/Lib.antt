-- Laws of `sampler_processor`. Legs: a sound leg by its parts, the fresh and the blank one. Kept: a command keeps a leg sound. Refused: what a refusal hands back.
-- Admitted: what a render that is not refused knows. Settled: two results that a contract allows coincide.
pub mod Legs
pub mod Kept
pub mod Refused
pub mod Admitted
pub mod Settled
-- Sizes: what the kept sizes bound, and that making refuses the others. Waiting: the queue's test along what waits. Output: rule 6 along a slice. Answers: what making and a command
-- answer, by their parts.
pub mod Sizes
pub mod Waiting
pub mod Output
pub mod Answers
-- AtFrames: a render applies exactly the events below its block's end, each at its frame. Below: the events that a block leaves. Events: the definition's block by whole numbers. Blocks: through a block what plays stays within its limits. Segments: how a segment counts its
-- pieces. Times: sums of times that fit. NoneDue: a block in which no event is due. Turns: what the block's loop carries, and Loops, as the code has it. NoFrames: a block of no frames changes nothing. Renders: what a render
-- gives its block, and answers. Handed: the leg that a render hands back is sound. NoNan: no sample that it renders is a NaN.
pub mod AtFrames
pub mod Below
pub mod Events
pub mod Segments
pub mod Blocks
pub mod Times
pub mod NoneDue
pub mod Turns
pub mod Loops
pub mod NoFrames
pub mod Renders
pub mod Handed
pub mod NoNan
