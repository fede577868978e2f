pub mod Binary
pub mod Least
