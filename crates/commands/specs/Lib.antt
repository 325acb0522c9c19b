-- What the contracts of the commands cite.
pub mod Limits
pub mod Listed
