pub mod Keys
pub mod Pairs
