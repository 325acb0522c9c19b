-- Proofs on tables and runs.
pub mod Places
pub mod Served
pub mod Chains
pub mod Rowed
pub mod Sound
pub mod Swept
pub mod Ranges
pub mod Settling
