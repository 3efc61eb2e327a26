-- Steps to go back to.
pub mod Places
