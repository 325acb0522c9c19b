-- Lemmas on bytes, parts of a file, and the file of a plan.
pub mod Bytes
pub mod Arrays
pub mod Laid
pub mod Whole
pub mod Records
pub mod Pieces
