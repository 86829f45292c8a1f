-- Laws of one field.
pub mod FieldEnds
pub mod Spelling
pub mod Bytewise
pub mod Readings
pub mod HexDigits
pub mod Decoding
