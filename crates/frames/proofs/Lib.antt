-- What is read: `Parts` tag, length and contents, read exactly where written; `Exact` the same of components and messages; `Lengths` of them; `Flags` an answer's first octet.
-- The code: `Places` parts by their places in a slice, `Steps`, `Bodies`, `Components`, `Messages` what is read by the code's tests in their order.
-- `Inside`: the string that is read, its count and its place. `Choice`: the readers leave none. `Examples`: lengths and messages octet by octet.
pub mod Parts
pub mod Exact
pub mod Lengths
pub mod Flags
pub mod Places
pub mod Steps
pub mod Bodies
pub mod Components
pub mod Messages
pub mod Inside
pub mod Choice
pub mod Examples
