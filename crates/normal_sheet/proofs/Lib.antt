-- What the proofs share, and what crates above may cite.
pub mod Fits
