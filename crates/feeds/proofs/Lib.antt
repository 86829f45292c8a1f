-- Laws of lines out of input that comes in pieces.
pub mod Bounds
pub mod ByLines
pub mod Chain
pub mod Cut
pub mod Ending
pub mod Feeding
pub mod Pieces
pub mod Used
pub mod Taken
