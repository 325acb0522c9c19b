-- Lemmas on the equations and the allowed runs.
pub mod Solutions
pub mod Tallies
pub mod Sums
pub mod Jobs
pub mod Ranges
pub mod Smallest
pub mod Rises
pub mod Stretches
pub mod Earlier
pub mod ProcessorBound
pub mod BusBound
pub mod Example
