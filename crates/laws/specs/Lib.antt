-- What every crate's definitions stand on. Rules: "Numbers a call may answer", and their order.
pub mod Rules
