-- What the contracts of the rules cite.
pub mod Workable
pub mod Demands
pub mod Answers
pub mod Layers
pub mod Switches
pub mod Lawful
pub mod Switched
pub mod Longer
