-- The modules of the crate's proofs that belong to no one function.
pub mod Pricing
pub mod Passing
pub mod Deciding
pub mod Answered
