-- Lemmas on what is read of a file.
pub mod Numbers
