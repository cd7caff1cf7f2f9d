pub mod Boolean
pub mod Orders
pub mod Laws
