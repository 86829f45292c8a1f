-- The names of calls as numbers.
pub mod Words
