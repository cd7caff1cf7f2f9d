pub mod AddedLines
pub mod Edited
pub mod EntryRoles
pub mod Frames
pub mod GivenKnown
pub mod HeldMemory
pub mod NameTags
pub mod NumbersApart
pub mod OneAnswer
pub mod OneColor
pub mod OneComposition
pub mod OneMark
pub mod OnePart
pub mod OnePath
pub mod OneText
pub mod StructsApart
mod StandardFacts
