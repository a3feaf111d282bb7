-- `Rows`: rows put in behind other words, as far as there is room.
pub mod Rows
