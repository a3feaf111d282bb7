-- `Heads`: what stands before the string in each component and before a component in its message. `Registers`: the writer of a Register at each of its checks. `Choice`: the writers leave none.
pub mod Heads
pub mod Registers
pub mod Choice
