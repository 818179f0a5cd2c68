-- The modules of the crate's proofs that belong to no one function.
pub mod Loops
pub mod Rewriting
pub mod Rough
pub mod RowTests
pub mod Runs
