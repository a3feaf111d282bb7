-- `Texts`: the texts of outcomes. `Placed`: a step at its row. `Due`: the lowest due number, row by row. `Steps`: no step of a record and no check leaves a choice. `Choice`: no contract of the calls and the visits leaves one. `Settled`: a step by the papers' numbers.
pub mod Texts
pub mod Placed
pub mod Due
pub mod Steps
pub mod Choice
pub mod Settled
