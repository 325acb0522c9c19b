-- Lemmas on lists of visits.
pub mod Following
pub mod Tabled
