-- Lemmas, each file by the notion that it is about.
pub mod Gaps
