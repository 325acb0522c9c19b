-- What the calls of the speed comparison answer.
pub mod Answers
