pub mod Ports
pub mod Cells
