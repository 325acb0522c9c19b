-- What the contracts of the reading of lines cite.
pub mod Misread
pub mod Spoken
