pub mod Ends
pub mod Slots
pub mod Ownership
pub mod GapBuf
pub mod Window
