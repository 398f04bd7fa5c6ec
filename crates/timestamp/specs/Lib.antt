-- What the contracts of `timestamp` cite. Time: T, S and their roundings. Answer: what each call answers.
pub mod Time
pub mod Answer
