pub mod ListCheck
pub mod AnyList
pub mod Agreement
pub mod passes
