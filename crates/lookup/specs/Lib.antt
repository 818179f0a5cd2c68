-- The definitions that the contracts of the inner functions cite.
pub mod Listed
pub mod Extremes
