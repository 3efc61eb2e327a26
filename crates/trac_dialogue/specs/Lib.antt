-- What a dialogue with a person reads and writes, and how it ends.
pub mod Talks
