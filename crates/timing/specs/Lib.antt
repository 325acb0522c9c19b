-- What the contracts of timing cite.
pub mod Line
pub mod Told
