-- What the reader's functions compute, in the terms of the model's `read_line`.
pub mod Fields
pub mod Made
