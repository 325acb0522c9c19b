-- What the contracts of plan files cite.
pub mod Faults
pub mod Bytes
pub mod Format
pub mod Reading
pub mod Stands
