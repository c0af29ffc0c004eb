-- What the writers compute on the way, for the proofs alone: a reader who believes the rest can pass over these.
pub mod Put
