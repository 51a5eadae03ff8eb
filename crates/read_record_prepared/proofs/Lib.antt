-- The laws that the proofs cite.
mod Answers
mod Filled
mod Laws
