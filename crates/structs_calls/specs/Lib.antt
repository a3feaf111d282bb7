-- `Answers`: what a call answers, in document 01's words, as the numbers of a C struct. `Routes`: the same of a routing.
pub mod Answers
pub mod Routes
