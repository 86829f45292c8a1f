pub mod Told
pub mod Seen
pub mod Judged
pub mod Looked
pub mod Lists
pub mod Added
pub mod Cells
pub mod Seeking
