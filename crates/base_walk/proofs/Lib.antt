-- What proofs that went through the code step by step cited: loans, arrays of rows and their first rows, calls, and a function's locals.
pub mod Arrays
pub mod Calls
pub mod Fronts
pub mod Loans
pub mod Locals
