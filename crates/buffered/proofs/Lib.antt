-- Laws of `buffered`. Refill: what filling the buffer leaves. Floats: floats that are read, one more. Puts: what putting bytes leaves.
pub mod Refill
pub mod Floats
pub mod Puts
