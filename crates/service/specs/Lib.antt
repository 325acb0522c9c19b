-- What contracts and laws of service rules cite.
pub mod Traces
pub mod Rows
pub mod Numbers
pub mod Laws
pub mod Answers
