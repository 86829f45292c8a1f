-- The tables that the reader and the writer of a line share.
pub mod Tables
pub mod Sizes
