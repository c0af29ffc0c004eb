pub mod Steps
pub mod Decoded
pub mod Stores
pub mod Double
pub mod Filled
pub mod Same
pub mod Found
pub mod Bytes
