pub mod Alone
pub mod Check
pub mod Engines
pub mod Failures
pub mod Output
pub mod Status
