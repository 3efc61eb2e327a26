-- The text that an editor holds, to be read in this order: positions, and edits.
pub mod Positions
pub mod Edits
