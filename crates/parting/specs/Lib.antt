-- A request taken apart, as the code holds it.
pub mod Apart
