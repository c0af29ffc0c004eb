pub mod Exercise
pub mod Record
pub mod passes
