-- What the contracts of `words` cite. Digits: a number by its hex digits, and by its bytes.
pub mod Digits
