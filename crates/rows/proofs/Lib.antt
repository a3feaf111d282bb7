-- `Notices`: the words of a sound notice, its phase and its second. `Stores`: what a run of stores leaves. `Seven`: a row's words one by one. `Rows`: a row and its record. `Starts`: a holder tested by the start of a length.
-- `Kept`: what a sound record says, and each step gives a sound record back. `Fits`: the words of a sound row are below 2^64.
pub mod Notices
pub mod Stores
pub mod Seven
pub mod Rows
pub mod Kept
pub mod Starts
pub mod Fits
