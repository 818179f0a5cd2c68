-- The laws of the crate.
pub mod Writing
pub mod Moving
