pub mod Covers
pub mod Found
