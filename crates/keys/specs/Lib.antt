-- The rule of keys for an access that lies in one block or two.
pub mod Guards
