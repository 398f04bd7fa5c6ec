-- What the contracts of `sampler_fade` cite. Entry: a table's entries. Bits: the two tables. FadeRule: what holds of each table.
pub mod Entry
pub mod Bits
pub mod FadeRule
