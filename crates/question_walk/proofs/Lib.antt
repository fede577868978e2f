pub mod Children
pub mod Walking
