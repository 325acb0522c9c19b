-- What the contracts of the reading cite.
pub mod Commands
pub mod Fields
