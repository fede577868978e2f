pub mod Ended
pub mod Given
pub mod Listed
pub mod Outcomes
