pub mod Counting
pub mod OnLiterals
mod StandardFacts
