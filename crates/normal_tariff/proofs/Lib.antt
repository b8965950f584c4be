-- What the proofs share.
pub mod Amounts
pub mod Charged
