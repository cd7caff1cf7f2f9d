pub mod Path
pub mod Passwd
pub mod Interpolation
pub mod Laws
pub mod Parts
pub mod Reading
