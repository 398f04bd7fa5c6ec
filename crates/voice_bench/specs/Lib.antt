-- What the contracts of `voice_bench` cite.
pub mod Numbered
