pub mod Clauses
pub mod Following
pub mod Items
pub mod Rests
