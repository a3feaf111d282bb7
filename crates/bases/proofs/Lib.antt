-- `Digits`: the laws of numbers and their digits. `Groups`: groups of digits, those left over, and those that are stored.
pub mod Digits
pub mod Groups
