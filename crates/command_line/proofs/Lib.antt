pub mod Pairs
pub mod Spelled
