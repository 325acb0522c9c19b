-- What the contracts of the reading and writing of digits cite.
pub mod Digits
