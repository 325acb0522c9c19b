-- What the contracts cite.
pub mod Faults
pub mod Rows
pub mod Verdicts
pub mod Answers
pub mod Passes
pub mod Settled
pub mod Sweeps
