-- `Along`: a list of calls seen from one number. `NoticeEnds`, `Driver`, `Controller`, `OwnSubscriber`, `Told`: the users' theorems. `Terminal`: the terminal's answers, one by one. `Accounts`, `Totals`: every notice accounted for, of one number and of all. `Withdrawn`: a closed number runs out. `Examples`: P1 to P15, M-100, M-101, M-103, M-105, M-107, M-111 and M-112.
pub mod Examples
pub mod Along
pub mod NoticeEnds
pub mod Driver
pub mod Controller
pub mod Terminal
pub mod OwnSubscriber
pub mod Told
pub mod Accounts
pub mod Totals
pub mod Withdrawn
