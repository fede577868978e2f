pub mod Audits
pub mod Checked
pub mod Cursors
pub mod Lacking
