-- `Said`: the paper's class, number and values for each case of an answer. `Settled`: a step by any numbers of its outcomes.
pub mod Said
pub mod Settled
