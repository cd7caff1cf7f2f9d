pub mod Scans
pub mod Ends
pub mod Spellings
pub mod Walks
pub mod Places
pub mod Adds
pub mod Commands
