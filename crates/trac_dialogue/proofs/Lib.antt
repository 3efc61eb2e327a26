pub mod Passed
pub mod Talked
