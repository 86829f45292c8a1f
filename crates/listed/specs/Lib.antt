-- What the entries of access lists are tested by.
pub mod Standings
