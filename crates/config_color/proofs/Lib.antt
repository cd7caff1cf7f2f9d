pub mod ColorOrder
pub mod EscapeLemmas
pub mod OnLiterals
pub mod OverLemmas
pub mod Deciding
pub mod Nearest
pub mod Reduction
mod StandardFacts
