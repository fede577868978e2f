pub mod Hands
pub mod Incarnations
pub mod Numbers
