-- Lemmas on buffers that are filled piece by piece.
pub mod Fronts
pub mod Each
