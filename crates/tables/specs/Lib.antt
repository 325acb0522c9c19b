-- What contracts on windows cite.
pub mod Demands
pub mod Tables
pub mod Runs
pub mod Stands
