pub mod Rows
pub mod Sets
pub mod Tints
pub mod ClashTables
