-- `Writer`, `Reader`: laws of the request's writers and reader. `Choice`: the contracts leave no choice. `Apart`, `Messages`: the structs lose nothing.
pub mod Writer
pub mod Reader
pub mod Choice
pub mod Apart
pub mod Messages
