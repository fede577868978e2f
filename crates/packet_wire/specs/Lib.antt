pub mod Gifts
pub mod Kinds
pub mod Reading
pub mod Spelling
pub mod WellFormed
