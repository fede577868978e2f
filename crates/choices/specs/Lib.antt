pub mod Choices
pub mod Keys
