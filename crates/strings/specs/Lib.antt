-- `Text`: the fields of a request and their text. `Reader`: the fields read back from a text. `Outcomes`: what the packed string's reader and writer answer and leave. `Notices`: a notice's text, and how it is read back.
pub mod Text
pub mod Reader
pub mod Outcomes
pub mod Notices
pub mod Found
pub mod Writable
