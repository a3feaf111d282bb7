-- `Numbers`: the stored form of a number, and its digits read and written. `Least`: the least number as long as a word, by which two comparisons tell a number.
pub mod Numbers
pub mod Least
