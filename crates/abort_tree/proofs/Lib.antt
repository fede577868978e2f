pub mod Aborting
pub mod Gaps
pub mod Lists
pub mod Reaching
pub mod Steps
pub mod Walking
