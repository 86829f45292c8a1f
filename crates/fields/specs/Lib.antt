-- What the reader of a field computes, in the terms of the model's `field_of`.
pub mod Fields
