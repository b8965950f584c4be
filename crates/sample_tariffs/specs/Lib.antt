-- What the two sample tariffs mean.
pub mod Amounts
pub mod Years
