-- `Words`: three words. `States`: what a sound state says, and what a step of a record leaves of it.
pub mod Words
pub mod States
