-- Where a rewriting stands.
pub mod Fed
