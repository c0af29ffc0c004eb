-- What the passes over the log compute, for the proofs alone: a reader who believes the rest can pass over these.
pub mod Keys
pub mod Rows
