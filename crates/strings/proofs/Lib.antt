-- The text: `Text` its fields one behind the other, its characters and its length; `Additional`, `Exact` each field's reader reads exactly its texts;
-- `ReadBack` a string reads exactly if it is the text of sound fields; `Octets` the same of packed octets; `Notices` the same of notices, and which of them are requests.
-- The code: `Steps` a field by the tests in their order, `Cursor` the fields in the rest of a text, `Answered` the answers.
-- `Choice`: the readers leave none. `Examples`: document 01's.
pub mod Additional
pub mod Exact
pub mod Text
pub mod ReadBack
pub mod Octets
pub mod Notices
pub mod Steps
pub mod Cursor
pub mod Answered
pub mod Choice
pub mod Examples
