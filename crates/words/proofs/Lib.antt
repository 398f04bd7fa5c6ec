-- Laws of `words`. Floats: which bits are a NaN's, for both widths. Digits: digits put behind a number, and one byte more.
pub mod Floats
pub mod Digits
