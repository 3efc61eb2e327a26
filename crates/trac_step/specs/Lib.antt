-- How the machine keeps a state, and what its calls promise.
pub mod Layout
pub mod Calling
pub mod Ready
pub mod Room
pub mod Record
pub mod Kept
pub mod Loading
pub mod Undoing
