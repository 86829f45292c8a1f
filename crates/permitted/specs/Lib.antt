-- What the permits of a state are tested by, and what is left for the entries: small tables of numbers made from the large ones.
pub mod Elements
pub mod Columns
