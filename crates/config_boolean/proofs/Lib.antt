pub mod OnLiterals
mod StandardFacts
