-- `Bases`: numbers and their digits.
pub mod Bases
