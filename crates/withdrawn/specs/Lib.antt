-- `Events`: calls and closings one after the other. `Lists`: two lists of calls with a change of the table between them.
pub mod Events
pub mod Lists
