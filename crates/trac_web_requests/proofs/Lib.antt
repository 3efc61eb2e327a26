-- What was read and written of slices is all of them.
mod Reached
mod Rowed
mod Shown
pub mod Told
pub mod Whole
