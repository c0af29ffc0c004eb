pub mod Tallied
pub mod Ordered
pub mod Walks
pub mod Outcome
