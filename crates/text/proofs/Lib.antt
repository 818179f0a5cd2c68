-- Laws of the crate's code.
pub mod Putting
pub mod Walk
