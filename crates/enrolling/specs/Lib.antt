pub mod Enrolling
