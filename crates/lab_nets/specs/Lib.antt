pub mod NetsIn
pub mod Marked
pub mod passes
