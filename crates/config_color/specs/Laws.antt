pub mod Space
pub mod Split
pub mod Color
pub mod Composition
pub mod Moving
pub mod PlainWords
pub mod ColorShown
