-- `Crews`: the additional field of a request for a whole crew, and how it is read. `Found`: what the readers of its parts answer.
pub mod Crews
pub mod Found
