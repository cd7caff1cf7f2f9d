pub mod Item
pub mod Attribute
