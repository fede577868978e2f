pub mod Finishing
pub mod Guests
pub mod Invariant
pub mod Ledger
pub mod Members
pub mod Returns
pub mod Shares
pub mod Steals
