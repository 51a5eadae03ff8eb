-- What holds of every call of the reader, the writers, the boundary and the function behind the programs, by their contracts (crates/spec_contracts) alone: a file for each demand,
-- Lines and Strict for tickets 2 and 7, and What for what they speak of. The others say why. What hangs on what a must-fail edit turns is in proofs/, in
-- files of the same names (and in Back, on which Demand3 stands).
pub mod What
pub mod Answers
pub mod Six
pub mod HeadSmall
pub mod LineLaws
pub mod Troubled
pub mod Spots
pub mod Demand1
pub mod Stray
pub mod Demand2
pub mod Demand3
pub mod Lines
pub mod Strict
