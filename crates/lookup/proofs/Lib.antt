pub mod Found
pub mod Lists
pub mod Rules
pub mod Owning
pub mod Rows
