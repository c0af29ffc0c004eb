pub mod Records
pub mod passes
