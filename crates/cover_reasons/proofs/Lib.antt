mod Reasoning
pub mod Rooming
mod Steps
mod Sums
pub mod Weighing
