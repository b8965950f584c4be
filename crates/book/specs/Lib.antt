pub mod Points
pub mod Answers
pub mod Periods
pub mod Plain
pub mod Memory
pub mod Names
