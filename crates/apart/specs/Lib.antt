-- What the quick test makes of the slots, and what it finds in it.
pub mod Marks
pub mod Rings
pub mod Warns
