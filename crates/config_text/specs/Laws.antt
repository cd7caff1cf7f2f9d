pub mod Value
pub mod Numerals
pub mod OneOf
