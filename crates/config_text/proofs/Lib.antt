pub mod SettingsLemmas
pub mod ReplacedValues
pub mod OneAnswer
mod DigitRows
pub mod OnLiterals
