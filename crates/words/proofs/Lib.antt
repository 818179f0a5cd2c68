-- Laws of the crate's code.
pub mod Words
pub mod Cases
