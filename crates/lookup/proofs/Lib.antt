-- Laws of this crate's code.
pub mod Bytes
pub mod Inserting
pub mod Skipping
pub mod Extremes
pub mod Bridge
pub mod Who
