-- What only the contracts of leaves and inner functions cite: a reader need not believe it. Stroke: the catch-up at one stroke. Lending: what a segment is given.
-- Kept: what the numbers of what plays stay within while a block goes on.
pub mod Stroke
pub mod Lending
pub mod Kept
