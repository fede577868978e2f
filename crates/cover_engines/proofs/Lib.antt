pub mod Checked
pub mod Ends
pub mod Findings
pub mod Outputs
