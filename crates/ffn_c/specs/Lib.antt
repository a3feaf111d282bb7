-- `Calls`: what each C function returns, with all the memory that it was lent.
pub mod Calls
