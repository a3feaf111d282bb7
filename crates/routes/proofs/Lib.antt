-- `Digits`: the digits asked for, their characters and how many they are. `Checks`: what a routing comes to at each check. `Choice`: no choice is left.
pub mod Digits
pub mod Checks
pub mod Choice
