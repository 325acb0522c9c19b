-- Lemmas, each file by the notion that it is about.
pub mod Kept
pub mod Calls
