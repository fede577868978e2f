mod Adding
pub mod Assuming
pub mod Clashing
mod Implying
mod Refuting
