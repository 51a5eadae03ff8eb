-- The laws that the proofs of the functions cite.
mod Spots
mod Cycle
mod Ending
