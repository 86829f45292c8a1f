-- What a program says of a failure.
pub mod Message
