-- Laws of the crate's code.
pub mod Filled
pub mod Telling
pub mod Blocks
pub mod Overlong
pub mod Program
