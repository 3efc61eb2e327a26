-- Names that are known, forms and blocks before a call, and what parts hold.
pub mod Changing
pub mod Returning
pub mod Loading
