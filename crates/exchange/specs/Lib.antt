-- `Said`: the paper's class, number and values for each case of the framed request's answer.
pub mod Said
