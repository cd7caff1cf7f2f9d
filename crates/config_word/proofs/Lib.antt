pub mod NameOrder
pub mod SeveralAttributes
pub mod Opposites
pub mod OnLiterals
pub mod HexDigits
mod StandardFacts
