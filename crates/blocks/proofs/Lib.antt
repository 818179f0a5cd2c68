-- Laws of the crate's code.
pub mod Bytes
