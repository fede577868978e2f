pub mod Ends
pub mod Walks
