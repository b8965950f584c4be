-- The calendar's definitions, from the days of a year up to its hours, months, weeks and peak-load hours.
pub mod Years
pub mod Days
pub mod Easter
pub mod Hours
pub mod Weeks
pub mod PeakLoad
pub mod Laws
pub mod Dates
pub mod Names
