pub mod Sofar
pub mod Spoken
