-- Messages in frames, to be read in this order: what a header says, the frames of bytes, and what a reader gives of
-- them.
pub mod Headers
pub mod Frames
pub mod Incoming
