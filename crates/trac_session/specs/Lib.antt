-- What a session keeps.
pub mod Replies
pub mod Commands
pub mod Knowing
pub mod Journal
pub mod Goals
pub mod Returns
pub mod Directions
pub mod Within
pub mod Runs
pub mod Outputs
-- How proofs store these values.
pub mod Codes
