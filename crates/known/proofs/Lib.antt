-- The proofs of the known plans, and that a settle has one answer.
pub mod Placed
pub mod Tests
pub mod Quick
pub mod Computed
pub mod Plans
pub mod Once
