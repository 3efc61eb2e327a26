-- What a walker is sent to.
pub mod Aims
-- Searches forward that stay where they began unless they meet something.
pub mod Searches
-- Which states of a run a session keeps.
pub mod States
-- How steps are numbered.
pub mod Steps
-- What a window shows of the output.
pub mod Windows
-- Where a walker stands, and where its moves lead.
pub mod Walkers
