-- `States`: table and figures together, and what a step of a record makes of them.
pub mod States
pub mod Lent
