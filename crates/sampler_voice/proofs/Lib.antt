-- What the functions' proofs cite. Room: places in a planar list. Audible: a frame adds one pair or nothing.
pub mod Room
pub mod Audible
-- Two: a list of two. Step, Run: a loop's turn and its frames of one phase. Chunk, Ways: frames cut where a phase ends; pieces one after the other (`frames_add`); a Stopped voice (`stopped`).
pub mod Two
pub mod Step
pub mod Run
pub mod Chunk
pub mod Ways
-- What later layers lean on. Apart, Mix: voices one after the other, piece by piece and frame by frame. Phases, Moves: what frames make of a voice.
pub mod Apart
pub mod Mix
pub mod Phases
pub mod Moves
-- No entry of an output becomes a NaN (NoNan): what is added is at most 16 (SmallPair).
pub mod SmallPair
pub mod NoNan
