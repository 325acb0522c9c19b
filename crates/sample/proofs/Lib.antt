-- The proof of the instance.
pub mod Pair
pub mod Ran
pub mod Allowed
