pub mod Urls
pub mod Fits
