-- `Restored`: what an image leaves, and what calls that start from it are promised.
pub mod Restored
