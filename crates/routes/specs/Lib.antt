-- `Said`: which answer each case of the code's enum is.
pub mod Said
