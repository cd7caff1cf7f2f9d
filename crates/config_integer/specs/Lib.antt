pub mod Suffix
pub mod Integer
pub mod Amount
pub mod Orders
pub mod Reading
pub mod Laws
