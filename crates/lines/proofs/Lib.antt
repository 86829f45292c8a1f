-- Laws of the reader.
pub mod Values
pub mod Cuts
pub mod Taken
pub mod Words
pub mod Line
pub mod Stored
