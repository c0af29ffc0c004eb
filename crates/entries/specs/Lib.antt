pub mod Table
pub mod passes
