-- `Laws`: counts, lengths, which characters are taken, the carriage return, the last octet.
-- `Squeezing`: eight characters in one number, eight bits or seven to each.
-- `Outcomes`: what a caller knows by the answer. `RoundTrip`: the theorems about packing.
pub mod Laws
pub mod Squeezing
pub mod Outcomes
pub mod RoundTrip
