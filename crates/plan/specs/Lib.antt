-- What the parts of a plan hold, and the plan as its contracts speak of it.
pub mod Tables
pub mod Journals
pub mod States
pub mod Views
