pub mod Ends
pub mod Lines
pub mod Steady
pub mod Found
pub mod Framed
pub mod Given
pub mod Back
