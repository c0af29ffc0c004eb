pub mod Settings
pub mod House
