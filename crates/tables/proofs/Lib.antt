-- `Keys`: rows that ascend by a key. `Search`: what the library's search of them comes to. `Sound`: what a sound table and list say, and tables from before M-102. `Stored`: what is found, and what storing a record leaves.
-- `Alone`: one row by itself. `Ends`: how a scan of ascending words knows a number. `Counts`: how many rows pass a test, and what a recount says. `Fits`: the words of a sound table and list are below 2^64. `Old`: tables from before M-110.
pub mod Keys
pub mod Search
pub mod Sound
pub mod Ends
pub mod Stored
pub mod Alone
pub mod Counts
pub mod Fits
pub mod Old
pub mod Passed
