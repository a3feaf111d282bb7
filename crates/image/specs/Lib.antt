-- `Images`: table and list as one image, what writing one and reading one come to. `Old`: images from before M-110.
pub mod Images
pub mod Old
