pub mod Class
pub mod Packed
pub mod passes
