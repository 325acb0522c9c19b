-- The lemmas that the proofs share.
pub mod Followers
pub mod Stale
pub mod Sweeping
pub mod Moves
pub mod Leads
pub mod Records
