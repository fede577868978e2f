pub mod Joining
pub mod Behind
pub mod Several
