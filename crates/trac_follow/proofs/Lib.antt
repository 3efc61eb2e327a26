pub mod StepsBack
pub mod RunsBack
pub mod Legs
pub mod Traces
