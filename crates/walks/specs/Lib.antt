-- `Tallies`: what the code counts beside the walk of the rules.
pub mod Tallies
