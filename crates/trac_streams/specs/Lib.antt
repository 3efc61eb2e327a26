-- What a run, the debugger and a walk have in common, to be read in this order: how they end, the lines of a text, how
-- bytes and numbers are shown, and how wide numbers are. All of it is this project's profile.
pub mod Endings
pub mod Lines
pub mod Escapes
pub mod Widths
-- What a writer holds, and what reads do.
pub mod Written
pub mod Pending
pub mod Reading
pub mod Tape
