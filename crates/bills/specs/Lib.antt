-- What both tariffs share of a year's bill.
pub mod Shares
pub mod Standing
pub mod Ranges
pub mod Bills
pub mod Months
