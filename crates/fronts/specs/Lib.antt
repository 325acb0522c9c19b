-- What the contracts of a front cite.
pub mod Listed
