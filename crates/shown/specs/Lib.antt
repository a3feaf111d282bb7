-- `Calls`: a call's name and the words of its line. `Blanks`: the buffer that a line asks for. `Answers`: what the calls answer, as one.
pub mod Calls
pub mod Blanks
pub mod Answers
