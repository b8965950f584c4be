-- What the program reads.
pub mod Written
