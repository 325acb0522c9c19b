-- Lemmas on what a rule is told, and on rules that answer to bad input as every rule does.
pub mod Checks
pub mod Answered
