-- The toolbox: definitions that speak of Booleans, numbers and lists, and of nothing of the product.
pub mod Choice
pub mod Decides
pub mod Places
pub mod Lowest
pub mod Bytes
pub mod Text
