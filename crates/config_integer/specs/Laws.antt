pub mod Suffix
pub mod Magnitude
pub mod Integer
pub mod IntegerShown
pub mod Amount
