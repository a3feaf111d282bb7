-- `Stepping`: the step of one number. `Tallies`: what is counted, beside the walk of the rules. `Replies`: the reply's text.
pub mod Stepping
pub mod Tallies
pub mod Replies
