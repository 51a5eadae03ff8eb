-- A call of the writer, the answer that is due, and the turns that find it.
pub mod Answered
pub mod Measured
pub mod States
pub mod RowLaws
pub mod Judging
pub mod Deciding
pub mod PutRows
pub mod Turns
