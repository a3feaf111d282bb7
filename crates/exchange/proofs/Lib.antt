-- `InFrame`: the string inside a Register by its place, the answer in its frame, and the framed request at each of its checks. `Choice`: no choice is left.
pub mod InFrame
pub mod Choice
