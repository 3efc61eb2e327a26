-- What a command line asks for.
pub mod Words
