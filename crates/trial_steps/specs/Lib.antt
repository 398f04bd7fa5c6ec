-- What the contracts of `trial_steps` cite. Follows: which legs may follow a leg.
pub mod Follows
