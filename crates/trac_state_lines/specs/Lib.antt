-- How a state is shown.
pub mod StateLines
