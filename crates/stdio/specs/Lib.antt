-- What the contracts of the crate cite.
pub mod Errors
pub mod Counts
