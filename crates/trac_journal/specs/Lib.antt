-- What a journal keeps.
pub mod Emptied
pub mod Told
pub mod Listed
pub mod Journaled
pub mod Dropped
-- How proofs store these values.
pub mod Codes
