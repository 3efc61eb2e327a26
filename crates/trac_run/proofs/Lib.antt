pub mod Stepped
pub mod Transfers
pub mod Turned
pub mod Taken
pub mod Ran
pub mod Waited
