-- Document 01, "Frames to check". Rows: m1 to m12, the summed-T trap and the limits, as one statement. It stands in a crate of its own, since it computes whole blocks.
pub mod Written
pub mod Rows
