-- What only the contracts of leaves and inner functions cite: a reader need not believe it. Run: what the loops do. Room: what a leaf asks of its caller.
pub mod Run
pub mod Room
