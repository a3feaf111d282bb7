-- `Program`: what a line prints and leaves, and the whole output. `Memory`: the program in the memory that it is lent.
pub mod Program
pub mod Memory
