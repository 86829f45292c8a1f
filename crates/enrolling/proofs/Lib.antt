pub mod Enrolled
