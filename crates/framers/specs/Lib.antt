-- `Written`: what the writer of a Register answers and leaves, and which component an error or a Reject is.
pub mod Written
