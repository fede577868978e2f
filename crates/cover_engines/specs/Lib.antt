pub mod Audit
pub mod Solve
