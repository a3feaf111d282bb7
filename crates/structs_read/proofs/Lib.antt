-- `Messages`: what was read in a message, in the numbers of its struct.
pub mod Messages
