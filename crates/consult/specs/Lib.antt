-- The definitions that the contracts cite.
pub mod Windows
pub mod Chains
pub mod Rows
pub mod Answers
