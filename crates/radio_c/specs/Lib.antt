-- `Leaves`: how a thin function says what it leaves.
pub mod Leaves
