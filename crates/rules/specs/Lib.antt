-- `Answers`: answers in the paper's words, and the texts that they write. `Requests`: a single request, its checks in their order. `Notices`: sendings, results and findings. `Terminal`: an erasure at the node's terminal. `Routing`: where a text message goes. `Crews`: a crew as its single requests, and the whole request. `Frames`: a request in its frame, and the answer in one. `Run`: a list of calls, and what it is to rearrange one. `Calls`: requests, framed or not, sendings, results, the terminal's erasures and routings as such calls. `Singles`: a crew beside its single requests. `Framed`: a framed request beside the bare one. `Visits`: a second form, by the record that a call visits. `Demand`: demands 1 and 3. `Finding`: the lowest due number, by every row at once. `Figures`: the figures along calls. `Entries`: entries of a list.
pub mod Answers
pub mod Requests
pub mod Crews
pub mod Frames
pub mod Notices
pub mod Terminal
pub mod Routing
pub mod Run
pub mod Calls
pub mod Singles
pub mod Visits
pub mod Demand
pub mod Framed
pub mod Finding
pub mod Entries
pub mod Figures
