-- Where each byte of a state comes from, to be read in this order.
pub mod Places
pub mod Lists
pub mod Moving
pub mod Performing
pub mod Stepping
pub mod Following
pub mod Accounts
pub mod Lengths
-- Words in which the worked rows are said.
pub mod Rows
