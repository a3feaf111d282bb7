-- `Numbers`: an answer in document 01's words as the numbers of a C struct. `Figures`: the same of a recount. `Images`: the same of an image that is read. `Changes`: the same of closing, compacting and adding.
pub mod Numbers
pub mod Figures
pub mod Images
pub mod Changes
