-- The laws of `sampler_fade`. Patterns: the value of a bit pattern. Order: a larger pattern has a larger value.
-- Test: one test of a table's patterns. FadeRule: where it passes, the table keeps the rule. Table: the two tables. Entry: the entries that count.
pub mod Patterns
pub mod Order
pub mod Test
pub mod FadeRule
pub mod Table
pub mod Entry
