pub mod Boolean
