-- `Verdicts`: what a reply says, by its text. `Named`: the number that a notice names. `Asked`: the next question, as the code asks it.
pub mod Verdicts
pub mod Named
pub mod Asked
