pub mod Cases
pub mod Heads
pub mod Reasons
pub mod Refutations
pub mod Stuck
pub mod Tables
