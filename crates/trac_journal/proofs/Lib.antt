pub mod Ends
pub mod Weighed
pub mod Calls
pub mod Counted
pub mod Newest
pub mod Oldest
pub mod Dropped
pub mod Printed
