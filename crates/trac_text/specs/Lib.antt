-- Texts and marks: how they are read as base text and begun functions, and what the rules of scanning make of them.
pub mod Cuts
pub mod Neutral
pub mod Frames
pub mod Begun
pub mod Marks
pub mod Moving
pub mod MovingBack
pub mod Framing
pub mod Holding
pub mod Ruled
pub mod Pieces
