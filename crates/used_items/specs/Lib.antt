pub mod Covers
pub mod Enough
pub mod Orders
