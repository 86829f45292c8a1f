-- What the table of bytes holds.
pub mod Later
