-- Places, one byte after another.
pub mod Passed
-- What is written of a report.
pub mod Written
-- How many `(` of a text have no match.
pub mod Depth
