-- How items are kept.
pub mod Either
pub mod Packed
-- How gaps are made in a run of bytes.
pub mod RunGaps
