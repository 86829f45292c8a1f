-- Input by bytes, and where one stands who goes over it line by line.
pub mod Feed
pub mod Fed
