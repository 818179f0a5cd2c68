-- The modules of the crate's proofs that belong to no one function.
pub mod Taking
pub mod Filling
pub mod Entering
pub mod Joining
pub mod Carried
