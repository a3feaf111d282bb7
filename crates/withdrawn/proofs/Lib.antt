-- `RunsOut`: a closed number over calls and closings. `Between`: M-108's equation over lists with closing, compacting and adding between them.
pub mod RunsOut
pub mod Between
