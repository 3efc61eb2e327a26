pub mod Ahead
pub mod Sums
