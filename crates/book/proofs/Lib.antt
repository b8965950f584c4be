pub mod Missing
pub mod Changes
pub mod Laws
