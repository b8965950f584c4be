-- What the contracts of the tariff and of advice cite.
pub mod Charges
pub mod Questions
pub mod Advised
