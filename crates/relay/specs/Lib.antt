-- What became of work on lines from a reader to a writer.
pub mod Spoken
pub mod Ran
pub mod Relaying
