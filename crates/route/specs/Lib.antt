pub mod Way
pub mod Shared
pub mod Route
pub mod Tries
pub mod Served
pub mod Found
pub mod passes
