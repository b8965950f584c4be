pub mod Clips
pub mod Counted
pub mod Absent
pub mod Energies
pub mod Numbered
pub mod PartTotals
pub mod Marks
