pub mod Adding
pub mod Named
pub mod Spared
pub mod Sticking
pub mod Trying
