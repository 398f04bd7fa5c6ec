-- What the contracts and laws of `leg_bytes` cite. Write: the 490 bytes of a leg. Read: which bytes are malformed, and which leg the others are. Fitting: which legs their bytes
-- hold whole.
pub mod Write
pub mod Read
pub mod Fitting
