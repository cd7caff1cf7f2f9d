pub mod Name
pub mod Attribute
pub mod Item
pub mod Orders
pub mod Reading
pub mod Laws
