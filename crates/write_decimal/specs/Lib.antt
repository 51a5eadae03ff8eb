-- What the decimal digits of a number are to a caller.
pub mod Decimal
