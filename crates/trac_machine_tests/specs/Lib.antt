-- Walks of one machine, over which another one goes back.
pub mod Walks
