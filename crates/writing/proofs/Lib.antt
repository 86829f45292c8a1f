-- Laws of the writer.
pub mod Words
pub mod Remaining
pub mod Verdicts
