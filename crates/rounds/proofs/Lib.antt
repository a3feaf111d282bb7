-- `Entries`: laws of stored numbers. `Sound`: a sound radio by its parts. `Cases`: what a call can do. `Calls`: a sound radio stays sound, a refusal changes nothing, a question reads. `Round`: each number due at a notice is asked once, in stored order. `Asked`: the question that is open was asked, in octets that read so. `Dropped`: only by an accepted reply to its own question. `Waiting`: a new number waits for the next round. `Late`: a late reply is refused. `Roots`: a root is the digits but the last two. `Fresh`: a fresh radio is sound, and its first question is under 1.
pub mod Entries
pub mod Sound
pub mod Cases
pub mod Calls
pub mod Round
pub mod Asked
pub mod Dropped
pub mod Waiting
pub mod Late
pub mod Roots
pub mod Fresh
