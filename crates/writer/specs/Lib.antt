pub mod Writing
pub mod Exercises
pub mod Answers
pub mod Boards
pub mod Laws
pub mod passes
