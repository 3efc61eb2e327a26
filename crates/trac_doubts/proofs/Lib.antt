pub mod Rows
pub mod Ordinals
pub mod Standing
pub mod Addressed
