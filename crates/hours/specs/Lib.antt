pub mod Values
pub mod Totals
pub mod Presence
