-- What a host is told: the number of an outcome, what is left in its buffer, and what of each request is stated.
pub mod Outcomes
pub mod Replies
pub mod Requests
pub mod Rows
pub mod Shown
pub mod Ways
