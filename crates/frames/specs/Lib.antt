-- `Parts`: tag, length and contents. `Components`: a request and its three answers, between HLR and node. `Messages`: Register and Release Complete around them. `Read`: what each case of the readers' answers stands for.
pub mod Parts
pub mod Components
pub mod Messages
pub mod Read
