-- What the contracts of writers cite.
pub mod Faults
pub mod Fronts
