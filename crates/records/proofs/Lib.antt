-- `Arms`: what a failed `let .. else` says of a notice.
pub mod Arms
