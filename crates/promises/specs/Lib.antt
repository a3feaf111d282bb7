-- A notice along calls (`Pending`), what the users are promised (`Users`), the accounts of notices (`Accounts`) and a closed number running out (`Withdrawn`), over the rules.
pub mod Pending
pub mod Users
pub mod Accounts
pub mod Withdrawn
