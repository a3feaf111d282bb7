-- `Rows`: the words of a buffer as rows. `Packing` and `Opening`: rows being taken out, and a row being put in.
-- `Lists`: the rows of a table as a list. `Kept` and `Inserted`: rows that a test leaves, and a row put between others. `Using`: the rows in use.
-- `Calls`: what closing, compacting and adding come to in each case. `Compacting`, `Adding`, `Closing`: the theorems about each.
-- `Accepted`: what each call keeps, and what is known by its answer. `Choice`: no choice is left. `Old`: tables of six words a row. `Examples`: numbers worked out.
pub mod Rows
pub mod Packing
pub mod Opening
pub mod Lists
pub mod Kept
pub mod Inserted
pub mod Using
pub mod Calls
pub mod Compacting
pub mod Adding
pub mod Closing
pub mod Accepted
pub mod Choice
pub mod Old
pub mod Examples
