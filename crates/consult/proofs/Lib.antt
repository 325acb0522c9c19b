-- The lemmas that the proofs share; `Reused` is for those who keep answers over a change of windows.
pub mod Links
pub mod Fronts
pub mod Gathered
pub mod Seats
pub mod Reused
