-- What the contracts of visits cite.
pub mod Visits
pub mod Answers
pub mod Replays
pub mod Openings
