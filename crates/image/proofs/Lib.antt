-- `Words`: words and their octets. `Images`: an image by its parts. `Writing` and `Reading`: what writing and reading one come to in each case.
-- `Accepted`: what is known by the answer, and that no choice is left. `RoundTrip`: the theorems about images. `Old`: images from before M-110. `Examples`: images worked out.
pub mod Words
pub mod Images
pub mod Writing
pub mod Reading
pub mod Accepted
pub mod RoundTrip
pub mod Old
pub mod Examples
