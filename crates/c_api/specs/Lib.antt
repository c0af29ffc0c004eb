pub mod Told
pub mod Circle
