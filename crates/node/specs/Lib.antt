-- `Asked`: what a request comes to once its string was read.
pub mod Asked
