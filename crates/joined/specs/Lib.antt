-- `Joined`: a round of the radio, its questions put to the node, and what is promised of it.
pub mod Joined
