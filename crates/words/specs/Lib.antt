-- R-3's definitions, which the contracts cite.
pub mod Words
