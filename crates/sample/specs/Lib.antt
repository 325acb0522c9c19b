-- The plan of the instance, its run, and the statement.
pub mod Pair
pub mod Plan
pub mod Stands
