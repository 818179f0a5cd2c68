-- Laws of the crate's code.
pub mod Walk
pub mod Forms
pub mod Orders
pub mod Names
