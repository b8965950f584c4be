-- What the contracts of the normal tariff cite.
pub mod Meaning
pub mod Laws
