pub mod Known
pub mod Splitting
pub mod Gathered
pub mod Taped
pub mod ShownLists
