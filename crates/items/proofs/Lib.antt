-- Lemmas, each file by the notion that it is about.
pub mod Valid
pub mod Members
pub mod Accepted
pub mod Placed
pub mod Withdrawn
pub mod Retimed
pub mod Undone
pub mod Kept
pub mod Tracking
pub mod Places
pub mod Rebuilt
