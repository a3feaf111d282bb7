-- `Fields`: the fields of a request as the numbers of a C struct, and numbers as fields. `Frames`: the same of messages that are read.
pub mod Fields
pub mod Frames
