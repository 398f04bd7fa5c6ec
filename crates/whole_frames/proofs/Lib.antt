-- Demand 3, over the definitions of sampler_player and sampler_processor. First: the first half (`first_half`). Second: the second half (`second_half`). Rates: its budget at four
-- rates. Starts: where a run may begin. Example, ExampleInside: runs in full, in numbers.
pub mod First
pub mod Second
pub mod Rates
pub mod Starts
pub mod Example
pub mod ExampleInside
-- The first half's way. Lasting: what passes leave. Drift: the bound over a list of pieces. Accepted: what a render that is not refused has been given. Along, Blocks: a block. Calls:
-- calls, and the pieces that they report (`reported_all_lem`).
pub mod Lasting
pub mod Drift
pub mod Accepted
pub mod Along
pub mod Blocks
pub mod Calls
-- The second half's way. Piece: the frames of a piece from two errors (`piece_whole`). Late, Ends: the two ends. Intervals, Same, Passes: an interval, a pass, passes beside whole
-- frames. Nearest, Parts: a block's part. Placed: what a start may leave. Joined, Quiet, Plays: parts, calls and a whole run.
pub mod Piece
pub mod Late
pub mod Ends
pub mod Intervals
pub mod Same
pub mod Passes
pub mod Placed
pub mod Nearest
pub mod Parts
pub mod Joined
pub mod Quiet
pub mod Plays
