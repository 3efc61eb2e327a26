pub mod Counted
pub mod Said
pub mod Existing
pub mod OneText
pub mod ToldOutput
pub mod Debugged
pub mod Answered
