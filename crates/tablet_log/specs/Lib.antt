pub mod Log
pub mod Minutes
pub mod Credited
pub mod Pairs
pub mod Alike
pub mod Laws
