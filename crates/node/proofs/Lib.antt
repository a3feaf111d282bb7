-- `Checks`: what a call comes to at each of its checks. `Asked`: the same once the string was read.
pub mod Checks
pub mod Asked
