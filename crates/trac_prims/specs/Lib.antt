-- The tape, and what is planned with the arguments of a call.
pub mod Tape
pub mod Effects
pub mod Blocks
pub mod Plans
