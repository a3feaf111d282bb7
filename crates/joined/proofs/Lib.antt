-- `Replies`: what the node answers to a question, and what the radio makes of it. `Became`: stored numbers with a verdict for each that is to be asked. `Steps`: one step of the exchange. `Along`: all steps. `Numbers`: what is stored of one number. `Joined`: the theorem. `Sent`: a notice that a sending wrote is accepted. `Examples`: an exchange, computed.
pub mod Replies
pub mod Became
pub mod Steps
pub mod Along
pub mod Numbers
pub mod Joined
pub mod Sent
pub mod Examples
