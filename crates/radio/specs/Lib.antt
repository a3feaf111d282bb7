-- `Radio`: the radio's three calls.
pub mod Radio
pub mod Asking
