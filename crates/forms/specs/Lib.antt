-- `Lines`: the lines of an input, their fields and the forms that a line can have. `Reads`: what the code's answers say of them.
pub mod Lines
pub mod Reads
