pub mod Marking
pub mod Packing
