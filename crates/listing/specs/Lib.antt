-- What the contracts of the reading cite.
pub mod Said
pub mod Texts
