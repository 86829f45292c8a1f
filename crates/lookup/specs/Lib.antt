pub mod Found
pub mod Owned
pub mod Rows
