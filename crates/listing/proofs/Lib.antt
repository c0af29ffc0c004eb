pub mod Writing
pub mod Digits
pub mod Lines
pub mod Marked
pub mod Ends
pub mod Example
