-- What the tables and the loops of this crate are proved equal to.
pub mod Sets
