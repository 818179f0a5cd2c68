-- The modules of the crate's proofs that belong to no one function.
pub mod Columns
pub mod Turns
pub mod Section
pub mod Districts
pub mod Joint
pub mod Stages
