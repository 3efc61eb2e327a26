-- The room that is left of a limit, and the allocator that keeps within one.
pub mod Room
pub mod Limited
