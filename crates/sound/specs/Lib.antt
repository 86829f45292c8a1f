-- The tests of the model over what the loops of the code hold: elements, and small tables of numbers made from the large ones.
pub mod Elements
pub mod Columns
pub mod Held
pub mod Answered
