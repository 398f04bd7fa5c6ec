-- What the contracts of `buffered` cite. Input: which bytes are held, at which place of the file. Output: where the next bytes go.
pub mod Input
pub mod Output
