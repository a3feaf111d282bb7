-- `Keys`: rows that ascend by a key, and where a key stands. `Tables`: when a table and a list are sound, and what is found in them.
-- `Ends`: how a scan of ascending words knows a number. `Figures`: the three figures by a recount.
pub mod Keys
pub mod Tables
pub mod Ends
pub mod Figures
