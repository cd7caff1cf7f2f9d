pub mod Split
pub mod Color
pub mod Escape
pub mod Depth
