-- `Words`: the words in use of a memory, and rows of them. `Tails`: characters of a tail that are read.
pub mod Words
pub mod Tails
