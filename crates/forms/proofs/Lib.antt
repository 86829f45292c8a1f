-- Laws of the tables, and of the forms that they hold.
pub mod EachForm
pub mod Storing
pub mod Sizes
