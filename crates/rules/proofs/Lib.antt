-- Lemmas on the rules.
pub mod Slopes
