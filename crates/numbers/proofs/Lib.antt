-- `Lengths`: a number has one length, and what that says of its size. `Least`: how the least number as long as a word tells whether it is one.
-- `Digits`: the stored form and the digits undo each other. `Reading`, `Writing`: digits read from a string and written into a buffer.
-- `Examples`: document 01's own.
pub mod Lengths
pub mod Least
pub mod Digits
pub mod Reading
pub mod Prefix
pub mod Writing
pub mod Examples
