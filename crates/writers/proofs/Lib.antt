-- `Numerals`: a numeral has one or two digits.
pub mod Numerals
