pub mod Item
pub mod Name
pub mod Attribute
