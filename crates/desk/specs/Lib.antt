-- What the contracts of the crate cite beside the model.
pub mod Filling
pub mod Input
pub mod Step
