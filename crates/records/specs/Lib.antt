-- `Steps`: what happens to one number's record. `Step`, `Holder`, `Sending`, `Resulted`: what a request, an interrogation, a sending and a result make of it, in the paper's numbers, and which of these an answer is.
pub mod Steps
pub mod Step
pub mod Holder
pub mod Sending
pub mod Resulted
