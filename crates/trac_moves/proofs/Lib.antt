pub mod InRun
pub mod Kept
pub mod Searched
pub mod SearchedAnew
pub mod SearchedOn
pub mod Standing
pub mod SteppedBack
