-- What a run reads and writes.
pub mod Runs
