-- What the contracts of normal sheets cite.
pub mod Levels
pub mod Ranges
pub mod Lines
pub mod Published
