pub mod Answers
pub mod Bases
