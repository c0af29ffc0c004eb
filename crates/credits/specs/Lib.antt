pub mod passes
