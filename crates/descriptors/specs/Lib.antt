-- What reads and writes come to.
pub mod Came
