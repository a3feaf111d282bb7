-- `Entries`: entries one after the other, as the loops pass over them. `Soundness`: what a sound radio keeps. `Laid`: its entries, and blanks behind them.
-- `Stored`: what a new number, a notice and an answer keep of the entries.
-- `Open`: the open question, and its answer. `Begun`: a round that begins, and a gap that is closed. `Settling`: what the code makes of an answer.
pub mod Entries
pub mod Soundness
pub mod Laid
pub mod Stored
pub mod Open
pub mod Begun
pub mod Settling
