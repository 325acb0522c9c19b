-- The rule, the plans, what a settle comes to, and the statements.
pub mod Rule
pub mod Plans
pub mod Comes
pub mod Stands
pub mod Once
