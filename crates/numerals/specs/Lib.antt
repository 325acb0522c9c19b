-- What the contracts of lines cite.
pub mod Lines
