pub mod Lines
pub mod Logging
pub mod Memory
pub mod Reading
pub mod Requests
pub mod Schedule
pub mod Writing
