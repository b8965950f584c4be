-- What the proofs share, and what crates above may cite.
pub mod Sums
pub mod Years
pub mod Rounds
pub mod Highest
pub mod MonthSums
pub mod Making
pub mod Failing
