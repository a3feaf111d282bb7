-- `Writing`: texts put over the front of a part.
pub mod Writing
