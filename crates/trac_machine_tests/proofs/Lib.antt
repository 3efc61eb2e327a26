-- Walks that lead to what a loaded machine shows.
pub mod Walks
