-- `Printing`: what can be printed. `Bounds`: how much. `Memory`: rows in use, and what a line did. `Calls`, `Figures`, `Running`: the calls, the figures that they leave, and lines one after the other.
-- `Examples`: document 01's whole input and output, computed.
pub mod Printing
pub mod Bounds
pub mod Memory
pub mod Calls
pub mod Figures
pub mod Running
pub mod Examples
