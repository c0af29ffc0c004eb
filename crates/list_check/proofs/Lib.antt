pub mod Crowd
pub mod Sheets
pub mod Agrees
pub mod Taken
pub mod AnyList
pub mod Bytes
