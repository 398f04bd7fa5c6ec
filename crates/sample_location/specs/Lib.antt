-- What the contracts of `sample_location` cite. Location: what each call answers.
pub mod Location
