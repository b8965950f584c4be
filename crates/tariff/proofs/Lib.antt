-- What the proofs share, and what crates above may cite.
pub mod Answered
pub mod Halves
pub mod Settles
pub mod Best
pub mod Picks
pub mod Alike
