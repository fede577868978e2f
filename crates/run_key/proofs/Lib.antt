pub mod Sealed
