-- What following a byte over one step says, in the words of `trac_origins`.
pub mod Places
pub mod Items
pub mod Offsets
pub mod Formed
pub mod Fetched
pub mod Running
pub mod Putting
