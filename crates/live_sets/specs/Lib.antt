pub mod Counting
pub mod Levels
pub mod Planes
pub mod Rows
pub mod ChoiceStep
pub mod Trying
