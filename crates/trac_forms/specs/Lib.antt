-- What calls answer, and what a store holds.
pub mod Outcomes
pub mod Stored
-- What a measured piece of a form says.
pub mod Taken
pub mod Listed
-- How forms and stores are kept.
pub mod Layout
pub mod Table
