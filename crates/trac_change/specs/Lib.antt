-- What a change makes of forms and blocks, what it destroys of them, and what its pieces and its name are; and what
-- was destroyed, as the rules see it.
pub mod Changed
pub mod Changes
pub mod Naming
pub mod Undone
