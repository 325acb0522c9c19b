-- What the contracts of the answers cite.
pub mod Answered
