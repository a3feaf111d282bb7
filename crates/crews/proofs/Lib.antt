-- `Codes`: codes and their digits. `Reading`: the codes of a text one after the other. `Steps`: what the parts of a field come to. `Crews`: a field has one reading.
-- `Examples`: one field of each class.
pub mod Codes
pub mod Reading
pub mod Steps
pub mod Crews
pub mod Examples
