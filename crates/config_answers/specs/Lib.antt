pub mod Lines
pub mod Types
pub mod Given
pub mod Answers
pub mod Choices
