-- Laws of names without their blanks, and of words behind their 1.
pub mod Blanks
pub mod Outside
pub mod Words
