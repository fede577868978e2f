pub mod Lists
pub mod Nones
pub mod Reordering
pub mod Using
