-- `Moving`: rows taken out of lent words, and a row put in. `Timetable`: what closing, compacting and adding come to.
pub mod Moving
pub mod Timetable
