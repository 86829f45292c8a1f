-- Laws of fields by the number of their kind.
pub mod ByKind
