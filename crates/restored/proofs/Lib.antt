-- `Restored`: what an accepted image leaves. `Moved`: a node moved by an image goes on as it was.
pub mod Restored
pub mod Moved
