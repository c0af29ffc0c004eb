pub mod FirstGiven
pub mod Ways
pub mod AllWays
mod OwnWays
pub mod Tries
pub mod Limit
mod TriedWays
pub mod EightBytes
mod Steps
mod Turns
mod Idle
mod Twins
mod Repeats
mod Placing
mod Whole
mod Bytes
mod TriesCases
pub mod Stated
