-- What following a byte says, in the words of `trac_origins`.
pub mod Passing
pub mod Following
pub mod Turns
pub mod Kept
pub mod Tracing
