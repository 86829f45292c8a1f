pub mod Tables
pub mod Permits
