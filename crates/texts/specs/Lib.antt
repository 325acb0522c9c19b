-- What the contracts of texts cite.
pub mod Numbers
pub mod Texts
