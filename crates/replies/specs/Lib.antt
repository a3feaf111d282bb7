-- `Replies`: what follows a line's letter, and which answers can be printed.
pub mod Replies
