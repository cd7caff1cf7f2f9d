pub mod LineLemmas
pub mod KindLemmas
pub mod StepLemmas
pub mod RunLemmas
pub mod OnLiterals
pub mod OneAnswer
mod StandardFacts
