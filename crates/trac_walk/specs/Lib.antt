-- How a walk ends.
pub mod Ends
-- What is said of moves that stopped.
pub mod Stops
-- What is said of the way of a byte.
pub mod Ways
