-- `Rows`: the words of a row, when they are sound, and the record that they are. `Starts`: how a scan of many rows tests one. `Old`: tables from before M-110.
pub mod Rows
pub mod Starts
pub mod Old
