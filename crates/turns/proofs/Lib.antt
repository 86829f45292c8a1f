pub mod Usable
pub mod Filled
pub mod Carried
pub mod Turned
pub mod Seen
