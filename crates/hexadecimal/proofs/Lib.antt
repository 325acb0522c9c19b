-- Lemmas on digits that are read and written two by two.
pub mod Pairs
