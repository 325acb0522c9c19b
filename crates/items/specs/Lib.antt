-- The definitions that the contracts cite, from the refusals up to what a plan keeps over its visits.
pub mod Refusals
pub mod Items
pub mod Conditions
pub mod Places
pub mod Valid
pub mod Ledger
pub mod Journal
pub mod Stands
