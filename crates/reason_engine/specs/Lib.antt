pub mod Causes
pub mod ReasonText
pub mod Why
