-- The modules of the crate's proofs that belong to no one function.
pub mod Turns
pub mod Call
