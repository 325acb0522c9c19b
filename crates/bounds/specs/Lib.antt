-- What contracts and laws of the two rules cite.
pub mod Numbers
pub mod Equations
pub mod Runs
pub mod Stands
pub mod Known
