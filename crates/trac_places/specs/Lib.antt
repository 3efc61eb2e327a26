-- Places in files.
pub mod Spots
-- What is written of a program, and how that ends.
pub mod Findings
-- What is guessed of the parentheses of a text.
pub mod Places
