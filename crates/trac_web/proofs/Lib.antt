-- What was read and written of slices is all of them.
mod Whole
