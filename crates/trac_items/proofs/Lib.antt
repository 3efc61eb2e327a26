pub mod Alone
pub mod ByteRuns
pub mod Cuts
pub mod RunGaps
pub mod Runs
