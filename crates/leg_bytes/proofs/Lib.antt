-- Laws of `leg_bytes`. Stores: parts stored one after the other. Given: a value that is given only where a test holds. Roundtrip: reading what was written of a leg gives it back.
pub mod Stores
pub mod Given
pub mod Roundtrip
