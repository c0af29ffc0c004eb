pub mod Ports
pub mod Rules
pub mod Stricter
pub mod Examples
pub mod passes
