-- `Stores`: what a radio stores, when that is sound, and what becomes of it.
pub mod Stores
pub mod Places
