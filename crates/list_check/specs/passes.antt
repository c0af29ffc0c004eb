-- What the passes over the sheets compute, for the proofs alone: a reader who believes the rest can pass over these.
pub mod Fit
