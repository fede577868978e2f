pub mod Reasons
pub mod Room
pub mod Weights
