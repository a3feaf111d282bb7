-- `Rounds`: calls of a radio, one after the other, and what they show of a round. `Promised`: what is proved of them.
pub mod Rounds
pub mod Promised
