pub mod Repository
pub mod PushDefault
pub mod Headline
pub mod SettingHeadline
pub mod Reading
pub mod Laws
