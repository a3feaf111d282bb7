-- `Choice`: no choice is left.
pub mod Choice
