pub mod Marks
pub mod Rings
pub mod Warns
pub mod Whole
